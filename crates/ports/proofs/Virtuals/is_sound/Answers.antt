-- `ports::Virtuals::is_sound` meets its contract.
-- Assumes nothing.
use mathlib.Core.Path.{refl}
use Rattle.ports.specs.Virtuals.{virtuals_in_range}
use Rattle.ports.proofs.Virtuals.is_sound.Goals as goal

pub returns : goal.returns
unfolding virtuals_in_range
returns c = refl
