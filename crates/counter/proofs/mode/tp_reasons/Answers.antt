-- `counter::mode::tp_reasons` meets its contract.
-- Assumes nothing.
use Rattle.std.proofs.Common.{◌≡◌, ℕ, ◌+◌, ◌/◌, ◌%◌, ◌^◌, eqb, sym, ap, ◌∙◌, pow-add}
use native.Mathlib.Nat.{div-div-eq-div-mul}
use Rattle.words.specs.Bits.{bit, bit_at}
use Rattle.words.proofs.BitLaws.{is_word}
use Rattle.counter.proofs.mode.tp_reasons.Goals as goal

-- the bits of the mode from 11 on
mode-at : (m j : ℕ) → bit (m / 2 ^ 11) j ≡ bit_at m (11 + j)
unfolding bit
mode-at m j = ap (λ n. eqb (n % 2) 1) (div-div-eq-div-mul m (2 ^ 11) (2 ^ j) ∙ ap (λ n. m / n) (sym (pow-add 2 11 j)))

pub returns : goal.returns
returns c = is_word 5 _ _ (λ j h. mode-at c.args.m j)
