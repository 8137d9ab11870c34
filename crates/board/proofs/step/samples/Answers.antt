-- `board::step::samples` meets its contract.
-- Assumes nothing.
use Rattle.board.specs.Inputs.{samples_of}
use Rattle.board.proofs.step.samples.Goals as goal

pub returns : goal.returns
unfolding samples_of
returns c = rw (c.flags.ensures.is, c.ip.ensures, c.route_level-level.ensures, c.index_of-index.ensures, c.xs.ensures, c.bit-ix.ensures, c.bit-b.ensures, c.bit-a.ensures)
