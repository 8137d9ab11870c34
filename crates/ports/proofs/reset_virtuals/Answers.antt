-- `ports::reset_virtuals` meets its contract.
-- Assumes nothing.
use mathlib.Core.Path.{refl}
use Rattle.words.specs.Bits.{word}
use Rattle.ports.specs.Virtuals.{reset_virtuals}
use Rattle.ports.proofs.reset_virtuals.Goals as goal

pub returns : goal.returns
unfolding reset_virtuals word
returns c = refl
