-- `textin::reader::read_line` meets its contract.
-- Assumes nothing.
use Rattle.textin.specs.Readings.{line_of}
use Rattle.textin.proofs.reader.read_line.Goals as goal

pub returns : goal.returns
unfolding line_of
returns c = rw (c.finished.ensures, c.read_words.ensures, c.before-n.ensures.front)
