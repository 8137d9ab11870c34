-- `counter::difference::transition` meets its contract. The table is tested at every entry by computing.
-- Assumes nothing.
use Rattle.counter.proofs.Turns.{looked-up}
use Rattle.words.specs.Table.{tab}
use Rattle.counter.specs.Quadrature.{transition}
use Rattle.counter.proofs.difference.transition.Goals as goal

pub returns : goal.returns
unfolding tab transition
returns c = rw (looked-up c.args.before c.args.now)
