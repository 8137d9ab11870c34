-- `control::reset` meets its contract.
-- Assumes nothing.
use Rattle.std.proofs.Common.{refl}
use Rattle.control.specs.Whole.{reset_core}
use Rattle.control.proofs.reset.Goals as goal

pub returns : goal.returns
unfolding reset_core
returns c = refl
