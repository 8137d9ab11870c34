-- `textin::Reading::take_last` meets its contract.
-- Assumes nothing.
use Rattle.textin.specs.Readings.{take_last}
use Rattle.textin.proofs.Reading.take_last.Goals as goal

pub returns-in-Some : goal.returns-in-Some
unfolding take_last
returns-in-Some c = rw (c.take_field.ensures, ← c.number.ensures, c.in-Some.is)

pub returns-in-None : goal.returns-in-None
unfolding take_last
returns-in-None c = rw (c.take_star.ensures, ← c.number.ensures, c.in-None.is)
