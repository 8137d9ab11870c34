-- A step captures on a channel if and only if one of the reasons of its capture is left by the mask: soft never occurs in a step.
-- Assumes nothing.
use mathlib.Core.Path.{◌≡◌, refl, ap, ap₂, sym, ◌∙◌}
use mathlib.Core.Bool.{Bool, true, false, not, ◌&&◌, ◌||◌, and-false}
use Prim.Native.Nat.{ℕ, zero, suc, ◌/◌, ◌%◌, ◌*◌, ◌^◌, ◌<◌}
use native.Mathlib.Omega.{arith}
use lib.Dec.{eqb}
use lib.IntN.{ℤ}
use lib.ListN.{get_or}
use borrow.Author.Tests.{ne_eqb}
use Rattle.words.specs.Bits.{bit, flag, flags, some}
use Rattle.words.proofs.BitLaws.{bit-or, bit-none, word_some}
use Rattle.counter.specs.Mode.{K}
use Rattle.counter.specs.Difference.{errs, moved}
use Rattle.counter.specs.Samples.{index_rises, index_falls, extin_rises, extin_falls}
use Rattle.counter.specs.Advance.{Inputs, edge_reasons, look, reaches, counted, masked}
use Rattle.counter.specs.declared.Channel.{Channel}
use Rattle.counter.specs.declared.Seen.{Seen}
use Rattle.reach.proofs.RangedStep.{flags-low}
use Rattle.account.specs.Counts.{reasons_in, soft, is_caught, captures}

-- ---- soft does not occur

-- bit 7 of a number below 128
low : (n : ℕ) → n < 128 → bit n soft ≡ false
unfolding bit
low n h = ne_eqb (n / 2 ^ 7 % 2) 1 (λ k. omega (arith, h, k))

matches-low : (a b c : Bool) → bit (flags a b c false) soft ≡ false
matches-low a b c = low (flags a b c false) (omega (arith, flags-low a b c false))

edges-low : (kept now : ℕ) → edge_reasons kept now < 128
unfolding edge_reasons
edges-low kept now = omega (arith, flags-low (index_falls kept now) (index_rises kept now) (extin_falls kept now) (extin_rises kept now))

error-alone : (t : Bool) → bit (256 * flag t) soft ≡ false
unfolding bit
error-alone true = refl
error-alone false = refl

seen : (now : ℕ) (carried : ℤ) (rises : Bool) (c : Channel) → bit (look now carried rises c).reasons soft ≡ false
unfolding look
seen now carried rises c = go c.running refl
  where
    go : (t : Bool) → c.running ≡ t → bit (look now carried rises c).reasons soft ≡ false
    go true h = rw h (bit-or _ _ soft ∙ ap₂ ◌||◌ (low (edge_reasons c.kept now) (edges-low c.kept now)) (error-alone (errs (K c.mode) c.kept now)))
    go false h = rw h (bit-none soft)

no-soft : (i : Inputs) (c : Channel) → bit (reasons_in i c) soft ≡ false
unfolding reasons_in counted
no-soft i c =
    let s : Seen = look i.now i.carried i.rises c in
    let n : ℕ = moved c.count s.d in
    bit-or _ _ soft
    ∙ ap₂ ◌||◌ (matches-low (reaches s.d n (get_or c.compares 0 0)) (reaches s.d n (get_or c.compares 1 0)) (reaches s.d n 0))
    (seen i.now i.carried i.rises c)

-- so the mask leaves a reason if and only if it leaves one other than soft
but-soft : (mask reasons : ℕ) → bit reasons soft ≡ false → is_caught mask reasons ≡ some 9 (λ j. bit mask j && bit reasons j)
unfolding is_caught some
but-soft mask reasons h = rw (h, and-false (bit mask 7))

-- ---- on a halted channel nothing occurs

none_of : (n : ℕ) (f : ℕ → Bool) → ((j : ℕ) → f j ≡ false) → some n f ≡ false
unfolding some
none_of zero f h = refl
none_of (suc n) f h = ap₂ ◌||◌ (h zero) (none_of n (λ j. f (suc j)) (λ j. h (suc j)))

halted : (i : Inputs) (c : Channel) → c.running ≡ false → reasons_in i c ≡ 0
unfolding reasons_in counted look
halted i c h = rw h

-- ---- the reasons of the capture of a step

pub caught : (i : Inputs) (c : Channel) → not (eqb (masked c.mask (reasons_in i c)) 0) ≡ captures i c
unfolding masked captures
caught i c = go c.running refl
  where
    go : (t : Bool) → c.running ≡ t → not (eqb (masked c.mask (reasons_in i c)) 0) ≡ (t && is_caught c.mask (reasons_in i c))
    go true h = word_some 9 _ ∙ sym (but-soft c.mask (reasons_in i c) (no-soft i c))
    go false h = rw (halted i c h) (word_some 9 _ ∙ none_of 9 _ (λ j. ap (λ t. bit c.mask j && t) (bit-none j) ∙ and-false (bit c.mask j)))
