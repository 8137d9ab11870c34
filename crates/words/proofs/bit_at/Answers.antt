-- `words::bit_at` meets its contract.
-- Assumes nothing.
use Rattle.words.specs.Bits.{bit}
use Rattle.words.proofs.bit_at.Goals as goal

pub returns : goal.returns
unfolding bit
returns c = rw (c.bit.ensures, c.from.ensures, c.from-2.ensures)
