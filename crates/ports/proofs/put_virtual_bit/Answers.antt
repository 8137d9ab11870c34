-- `ports::put_virtual_bit` meets its contract.
-- Assumes nothing.
use Rattle.words.proofs.BitLaws.{is_word, bit_word}
use native.Mathlib.Omega.{arith}
use Rattle.ports.proofs.put_virtual_bit.Goals as goal

pub returns : goal.returns
returns c = rw c.put.ensures (is_word 6 _ _ (λ i h. bit_word 48 _ i (omega arith)))
