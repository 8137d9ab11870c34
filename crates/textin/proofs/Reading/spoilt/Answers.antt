-- `textin::Reading::spoilt` meets its contract.
-- Assumes nothing.
use Rattle.textin.specs.Readings.{spoilt}
use Rattle.textin.proofs.Reading.spoilt.Goals as goal

pub returns : goal.returns
unfolding spoilt
returns c = rw (c.at.ensures, c.wanted.ensures)
