-- `buffers::put_long` meets its contract.
-- Assumes nothing.
use Rattle.buffers.proofs.Bytes.{eight_bytes}
use Rattle.buffers.proofs.put_long.Goals as goal

pub returns : goal.returns
returns c = rw (c.copy_to.ensures, c.to_le_bytes.ensures, eight_bytes c.args.v)
