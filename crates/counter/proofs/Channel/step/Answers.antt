-- `counter::Channel::step` meets its contract.
-- Assumes nothing.
use Rattle.counter.specs.Advance.{step}
use Rattle.counter.proofs.Channel.step.Goals as goal

pub returns : goal.returns
unfolding step
returns c = rw (c.settle.ensures, c.next-n.ensures)
