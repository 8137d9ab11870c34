-- `control::Core::is_sound` meets its contract.
-- Assumes nothing.
use Rattle.control.specs.Whole.{core_in_range}
use Rattle.control.specs.Whole.{core_in_range}
use Rattle.control.proofs.Core.is_sound.Goals as goal

pub returns : goal.returns
unfolding core_in_range
returns c = rw c.is_sound.ensures
