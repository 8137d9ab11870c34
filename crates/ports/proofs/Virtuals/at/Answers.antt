-- `ports::Virtuals::at` meets its contract.
-- Assumes nothing.
use Rattle.ports.specs.Virtuals.{virtual_at}
use Rattle.ports.proofs.Virtuals.at.Goals as goal

pub returns : goal.returns
unfolding virtual_at
returns c =
    rw (c.bit-3.ensures, c.bit-2.ensures, c.bit.ensures)
