-- `control::Clock::repair` meets its contract.
-- Assumes nothing.
use mathlib.Core.Path.{◌∙◌}
use Rattle.words.proofs.Arrays.{below_is}
use Rattle.control.specs.Clock.{repaired_clock}
use Rattle.control.proofs.Clock.repair.Goals as goal

pub returns : goal.returns
unfolding repaired_clock
returns c = rw (c.below.ensures ∙ below_is 500000000 0 c.args.self.prescaler)
