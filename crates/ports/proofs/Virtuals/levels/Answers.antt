-- `ports::Virtuals::levels` meets its contract.
-- Assumes nothing.
use native.Mathlib.Omega.{arith}
use Rattle.words.proofs.BitLaws.{is_word, bit_word}
use Rattle.ports.specs.Virtuals.{virtual_levels, virtual_at}
use Rattle.ports.proofs.Virtuals.levels.Goals as goal

pub returns : goal.returns
unfolding virtual_levels virtual_at
returns c = rw c.guarded.ensures (is_word 6 _ _ (λ i h. bit_word 48 _ i (omega arith)))
