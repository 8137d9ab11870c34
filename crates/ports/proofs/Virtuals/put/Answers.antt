-- `ports::Virtuals::put` meets its contract.
-- Assumes nothing.
use Rattle.ports.specs.Virtuals.{put_virtual}
use Rattle.ports.proofs.Virtuals.put.Goals as goal

pub returns : goal.returns
unfolding put_virtual
returns c =
    rw (c.put_virtual_bit-3.ensures, c.put_virtual_bit-2.ensures, c.put_virtual_bit.ensures)
