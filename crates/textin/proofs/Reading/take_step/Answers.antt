-- `textin::Reading::take_step` meets its contract.
-- Assumes nothing.
use Rattle.textin.specs.Readings.{take_step}
use Rattle.textin.proofs.Reading.take_step.Goals as goal

pub returns-in-Some : goal.returns-in-Some
unfolding take_step
returns-in-Some c = rw (c.take_field.ensures, ← c.number.ensures, c.in-Some.is)

pub returns-in-None : goal.returns-in-None
unfolding take_step
returns-in-None c = rw (c.take_input.ensures, ← c.number.ensures, c.in-None.is)
