-- `control::tick` meets its contract.
-- Assumes nothing.
use Rattle.control.proofs.Divisors.{divisor-positive}
use Rattle.control.proofs.tick.Goals as goal

pub nonzero_rem-result : goal.nonzero_rem-result
nonzero_rem-result c = rw c.divisor.ensures (divisor-positive c.args.x c.requires)
