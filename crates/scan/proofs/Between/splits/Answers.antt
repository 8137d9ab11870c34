-- `scan::Between::splits` meets its contract.
-- Assumes nothing.
use Rattle.std.proofs.Common.{refl}
use Rattle.scan.specs.Parts.{between}
use Rattle.scan.proofs.Between.splits.Goals as goal

pub returns-in-Words : goal.returns-in-Words
unfolding between
returns-in-Words c = rw c.in-Words.is refl

pub returns-in-Lines : goal.returns-in-Lines
unfolding between
returns-in-Lines c = rw c.in-Lines.is refl
