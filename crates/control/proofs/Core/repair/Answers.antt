-- `control::Core::repair` meets its contract.
-- Assumes nothing.
use Rattle.control.specs.Whole.{repaired_core}
use Rattle.control.proofs.Core.repair.Goals as goal

pub returns : goal.returns
unfolding repaired_core
returns c =
    rw (c.repair-3.ensures, c.repair-2.ensures, c.repair.ensures)
