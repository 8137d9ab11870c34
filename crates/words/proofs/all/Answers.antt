-- `words::all` meets its contract.
-- Assumes nothing.
use Rattle.words.specs.Bits.{word}
use Rattle.words.proofs.all.Goals as goal

pub returns-then-v : goal.returns-then-v
unfolding word
returns-then-v c = rw c.if-v.true

pub returns-else-v : goal.returns-else-v
unfolding word
returns-else-v c = rw c.if-v.false
