-- `textin::Reading::take_times` meets its contract.
-- Assumes nothing.
use borrow.Author.Tests.{ne_eqb, lt-ltb, le-ltb, eq-eqb}
use Rattle.textin.specs.Readings.{take_times}
use Rattle.textin.proofs.Reading.take_times.Goals.{in_default-via-in-Some+then-n-ne0+else-n-lt-WORD, in_default-via-in-Some+else-n-ne0, in_default-via-in_default}
use Rattle.textin.proofs.Reading.take_times.Goals as goal

pub returns-in-Some : goal.returns-in-Some
unfolding take_times
returns-in-Some c = rw (← c.number.ensures, c.in-Some.is, ne_eqb c.in-Some.n 0 c.if-n-ne0.true, lt-ltb c.in-Some.n 4294967296 c.if-n-lt-WORD.true)

pub returns-in_default : goal.returns-in_default
unfolding take_times
returns-in_default c =
    elim c.in_default.branch [
      | in_default-via-in-Some+then-n-ne0+else-n-lt-WORD w ↦
          rw (c.spoilt.ensures, ← c.number.ensures, w.in-Some.is, ne_eqb w.in-Some.n 0 w.if-n-ne0.true, le-ltb w.in-Some.n 4294967296 w.if-n-lt-WORD.false)
      | in_default-via-in-Some+else-n-ne0 w ↦ rw (c.spoilt.ensures, ← c.number.ensures, w.in-Some.is, eq-eqb w.in-Some.n 0 w.if-n-ne0.false)
      | in_default-via-in_default w ↦ rw (c.spoilt.ensures, ← c.number.ensures, w.in_default.is)
    ]
