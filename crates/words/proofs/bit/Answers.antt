-- `words::bit` meets its contract.
-- Assumes nothing.
use mathlib.Core.Path.{refl}
use Rattle.words.specs.Bits.{bit}
use Rattle.words.proofs.bit.Goals as goal

pub returns : goal.returns
unfolding bit
returns c = refl
