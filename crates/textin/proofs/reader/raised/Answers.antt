-- `textin::reader::raised` meets its contract.
-- Assumes nothing.
use Rattle.textin.specs.Readings.{raised}
use Rattle.textin.proofs.reader.raised.Goals as goal

pub returns-in-Line : goal.returns-in-Line
unfolding raised
returns-in-Line c = rw (c.in-Line.is, c.input_up.ensures)

pub returns-in-Pin : goal.returns-in-Pin
unfolding raised
returns-in-Pin c = rw (c.in-Pin.is, c.put.ensures)
