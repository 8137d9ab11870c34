-- Laws of folds over planes: each plane that is looked at tells of one bit more of the numbers.
-- Assumes nothing.
use mathlib.Core.Path.{◌≡◌, refl, ap, sym, ◌∙◌}
use mathlib.Core.Bool.{cond, not, ◌||◌, beq}
use mathlib.Core.List.{List}
use Prim.Native.Nat.{ℕ, zero, suc, ◌+◌, ◌≤◌}
use native.Mathlib.Numerals.{add-one}
use native.Mathlib.Omega.{arith}
use lib.Dec.{ltb}
use lib.ListN.{length, get_or, take}
use Rattle.std.specs.List.{fold, zip}
use Rattle.std.proofs.lemmas.List.{take_all}
use Rattle.std.proofs.lemmas.List.Sums.{fold_more}
use Rattle.std.proofs.lemmas.Slice.Zip.{length-zip, get_or-zip}
use Rattle.words.specs.Bits.{bit, word}
use Rattle.words.proofs.BitLaws.{word-ext, bit_word}
use Rattle.filters.specs.Planes.{number_at}
use Rattle.filters.proofs.Numbers.{above_more, below_more}

-- ---- the pins whose number is above 0

abbrev pub above : ℕ → ℕ → ℕ
above r plane = word 48 (λ p. bit r p || bit plane p)

module _ (x : List ℕ) where
  -- the pins whose number in the first n planes is above 0
  abbrev above-in : ℕ → ℕ
  above-in n = word 48 (λ p. ltb 0 (word n (λ k. bit (get_or x k 0) p)))

  above-none : 0 ≡ above-in 0
  unfolding word
  above-none = refl

  above-next : (n : ℕ) → above (above-in n) (get_or x n 0) ≡ above-in (n + 1)
  above-next n = word-ext 48 _ _ (λ p h. simp bit_word (above_more n (λ k. bit (get_or x k 0) p)))

  above-front : (n : ℕ) → n ≤ length x → fold above 0 (take n x) ≡ above-in n
  above-front zero h = above-none
  above-front (suc n) h =
      rw (← add-one n) (fold_more above 0 x n 0 (omega arith) ∙ ap (λ r. above r (get_or x n 0)) (above-front n (omega arith)) ∙ above-next n)

  pub above-all : length x ≡ 16 → fold above 0 x ≡ word 48 (λ p. ltb 0 (number_at x p))
  unfolding number_at
  above-all h = ap (fold above 0) (sym (take_all 16 x (omega arith))) ∙ above-front 16 (omega arith)

-- ---- the pins whose number is below another

abbrev pub lower : ℕ → ℕ × ℕ → ℕ
lower r e = word 48 (λ p. cond (bit (word 48 (λ q. not (beq (bit e.0 q) (bit e.1 q)))) p) (bit e.1 p) (bit r p))

module _ (x y : List ℕ) (same : length x ≡ length y) where
  -- the pins whose number in the first n planes is below the other
  abbrev lower-in : ℕ → ℕ
  lower-in n = word 48 (λ p. ltb (word n (λ k. bit (get_or x k 0) p)) (word n (λ k. bit (get_or y k 0) p)))

  lower-none : 0 ≡ lower-in 0
  unfolding word
  lower-none = refl

  lower-next : (n : ℕ) → lower (lower-in n) (get_or x n 0, get_or y n 0) ≡ lower-in (n + 1)
  lower-next n = word-ext 48 _ _ (λ p h. simp bit_word (below_more n (λ k. bit (get_or x k 0) p) (λ k. bit (get_or y k 0) p)))

  lower-front : (n : ℕ) → n ≤ length x → fold lower 0 (take n (zip x y)) ≡ lower-in n
  lower-front zero h = lower-none
  lower-front (suc n) h =
      rw (← add-one n)
      (fold_more lower 0 (zip x y) n (0, 0) (omega (arith, length-zip x y))
      ∙ ap (lower (fold lower 0 (take n (zip x y)))) (get_or-zip x y n (0, 0) (omega arith) (omega arith))
      ∙ ap (λ r. lower r (get_or x n 0, get_or y n 0)) (lower-front n (omega arith)) ∙ lower-next n)

  pub lower-all : length x ≡ 16 → fold lower 0 (zip x y) ≡ word 48 (λ p. ltb (number_at x p) (number_at y p))
  unfolding number_at
  lower-all h = ap (fold lower 0) (sym (take_all 16 (zip x y) (omega (arith, length-zip x y)))) ∙ lower-front 16 (omega arith)
