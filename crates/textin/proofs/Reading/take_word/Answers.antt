-- `textin::Reading::take_word` meets its contract.
-- Assumes nothing.
use Rattle.textin.specs.Readings.{take_word}
use Rattle.textin.proofs.Reading.take_word.Goals as goal

pub returns-then-is_empty : goal.returns-then-is_empty
unfolding take_word
returns-then-is_empty c = rw (← c.is_empty.ensures, c.if-is_empty.true)

pub returns : goal.returns
unfolding take_word
returns c = rw (c.take_some.ensures, ← c.is_empty.ensures, c.if-is_empty.false)
