-- `textin::Reading::take_star` meets its contract.
-- Assumes nothing.
use Rattle.words.specs.Table.{tab}
use Rattle.scan.specs.Bytes.{ascii}
use Rattle.scan.proofs.Bytes.{same-pointwise}
use Rattle.textin.specs.Readings.{take_star}
use Rattle.textin.proofs.Reading.take_star.Goals as goal

pub returns-then-eq : goal.returns-then-eq
unfolding take_star ascii tab
returns-then-eq c = rw (c.at.ensures, same-pointwise _ _, ← c.as_slice.ensures, ← c.eq.ensures, c.if-eq.true)

pub returns : goal.returns
unfolding take_star ascii tab
returns c = rw (c.spoilt.ensures, same-pointwise _ _, ← c.as_slice.ensures, ← c.eq.ensures, c.if-eq.false)
