-- `textin::Reading::take_field` meets its contract.
-- Assumes nothing.
use Rattle.textin.specs.Readings.{take_field}
use Rattle.textin.proofs.Reading.take_field.Goals.{in_default-via-in-Some+else-holds, in_default-via-in_default}
use Rattle.textin.proofs.Reading.take_field.Goals as goal

pub returns-in-Some : goal.returns-in-Some
unfolding take_field
returns-in-Some c = rw (c.with_field.ensures, ← c.number.ensures, c.in-Some.is, ← c.holds.ensures, c.if-holds.true)

pub returns-in_default : goal.returns-in_default
unfolding take_field
returns-in_default c =
    elim c.in_default.branch [
      | in_default-via-in-Some+else-holds w ↦ rw (c.spoilt.ensures, c.at.ensures, ← c.number.ensures, w.in-Some.is, ← w.holds.ensures, w.if-holds.false)
      | in_default-via-in_default w ↦ rw (c.spoilt.ensures, c.at.ensures, ← c.number.ensures, w.in_default.is)
    ]
