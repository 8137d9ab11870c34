-- `counter::Channel::pop` meets its contract.
-- Assumes nothing.
use Rattle.counter.specs.Queue.{popped}
use Rattle.counter.proofs.Channel.pop.Goals as goal

pub returns : goal.returns
unfolding popped
returns c =
    simp (
      c.saturating_sub.ensures,
      c.shift-self-3.ensures,
      c.shift-self-2.ensures,
      c.shift-self.ensures,
    )
