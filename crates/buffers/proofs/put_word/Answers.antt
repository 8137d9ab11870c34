-- `buffers::put_word` meets its contract.
-- Assumes nothing.
use Rattle.buffers.proofs.Bytes.{four_bytes}
use Rattle.buffers.proofs.put_word.Goals as goal

pub returns : goal.returns
returns c = rw (c.copy_to.ensures, c.to_le_bytes.ensures, four_bytes c.args.v)
