-- `counter::stages::asked` meets its contract.
-- Assumes nothing.
use Rattle.words.specs.Bits.{bit, word}
use Rattle.std.proofs.Common.{◌≡◌, ℕ, ◌+◌, ◌%◌, Bool, not, ◌&&◌, ◌||◌, eqb, ap, ◌∙◌}
use lib.Bits.{bit_and}
use Rattle.words.specs.Bits.{bit}
use Rattle.counter.specs.Mode.{TP}
use Rattle.counter.specs.Advance.{asked}
use Rattle.words.proofs.BitLaws.{bit_word, bit-and, is_some}
use Rattle.counter.proofs.stages.asked.Goals as goal

-- an `and` with the bits 11 to 15 is not 0 where one of the events holds
asks : (m w reasons : ℕ) (high : Bool) → w ≡ word 5 (λ j. TP m (11 + j)) → (not (eqb (bit_and w reasons % 32) 0) || (TP m 16 && high)) ≡ asked m reasons high
unfolding asked
asks m w reasons high e =
    ap (λ t. t || (TP m 16 && high))
    (is_some 5 (bit_and w reasons) (λ j. TP m (11 + j) && bit reasons j) (λ j h. bit-and w reasons j ∙ ap (λ t. t && bit reasons j) (ap (λ n. bit n j) e ∙ bit_word 5 (λ i. TP m (11 + i)) j h)))

pub returns : goal.returns
returns c = let a = c.args in
    rw c.tp.ensures (asks a.m c.tp_reasons.result a.reasons a.high c.tp_reasons.ensures)
