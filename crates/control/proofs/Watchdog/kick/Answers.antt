-- `control::Watchdog::kick` meets its contract.
-- Assumes nothing.
use Rattle.std.proofs.Common.{refl}
use Rattle.control.specs.Watchdog.{kicked}
use Rattle.control.proofs.Watchdog.kick.Goals as goal

pub returns : goal.returns
unfolding kicked
returns c = refl
