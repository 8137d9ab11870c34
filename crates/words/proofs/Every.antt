-- Laws of what holds at each of n places, and of values put in their range.
-- Assumes nothing.
use mathlib.Core.Path.{◌≡◌, refl, sym, ap, ap₂, ◌∙◌}
use mathlib.Core.Bool.{Bool, true, false, not, ◌&&◌, and-eq-true_iff}
use mathlib.Core.List.{List}
use Prim.Native.Nat.{ℕ, zero, suc, ◌+◌, ◌<◌}
use native.Mathlib.Nat.{not-suc-le-zero, mod-eq_of_lt}
use native.Mathlib.Numerals.{add-one}
use native.Mathlib.Omega.{arith}
use lib.Dec.{eqb}
use lib.ListN.{length, get_or}
use lib.Pow.{pow_pos}
use borrow.Author.Count.{below_more}
use borrow.Author.Tests.{eqb-true, eq-eqb, not-true}
use Rattle.words.specs.Bits.{bit, word, every}
use Rattle.words.specs.Range.{or_reset, all_good, all_or_reset}
use Rattle.words.proofs.BitLaws.{bit_word, bit-none, is_word}
use Rattle.words.proofs.Cases.{tested, taken}
use Rattle.words.proofs.Tables.{tab-same, length-tab, get_or-tab}

pub every-at : (n : ℕ) (f : ℕ → Bool) → every n f ≡ true → (i : ℕ) → i < n → f i ≡ true
unfolding every
every-at zero f h i k = absurd (not-suc-le-zero k)
every-at (suc n) f h i k =
    let both = (and-eq-true_iff (every n f) (f n)).0 h in
    below_more (λ j. f j ≡ true) n (every-at n f both.0) both.1 i (omega (arith, add-one n))

pub every-by : (n : ℕ) (f : ℕ → Bool) → ((i : ℕ) → i < n → f i ≡ true) → every n f ≡ true
unfolding every
every-by zero f h = refl
every-by (suc n) f h = (and-eq-true_iff (every n f) (f n)).1 (every-by n f (λ i k. h i (omega arith)), h n (omega arith))

pub every-ext : (n : ℕ) (f g : ℕ → Bool) → ((i : ℕ) → i < n → f i ≡ g i) → every n f ≡ every n g
unfolding every
every-ext zero f g h = refl
every-ext (suc n) f g h = ap₂ ◌&&◌ (every-ext n f g (λ i k. h i (omega arith))) (h n (omega arith))

-- one place more, as a loop counts
pub every-on : (n : ℕ) (f : ℕ → Bool) → every (n + 1) f ≡ (every n f && f n)
unfolding every
every-on n f = rw (add-one n)

-- two tests that follow from each other
same_test : (s t : Bool) → (s ≡ true → t ≡ true) → (t ≡ true → s ≡ true) → s ≡ t
same_test true t h k = sym (h refl)
same_test false true h k = k refl
same_test false false h k = refl

-- a word is 0 where none of its bits is 1
pub word_none : (n : ℕ) (f : ℕ → Bool) → eqb (word n f) 0 ≡ every n (λ i. not (f i))
word_none n f =
    same_test (eqb (word n f) 0) (every n (λ i. not (f i)))
    (λ h. every-by n _ (λ i k. ap not (sym (bit_word n f i k) ∙ ap (λ w. bit w i) (eqb-true (word n f) 0 h) ∙ bit-none i)))
    (λ h. eq-eqb (word n f) 0 (sym (is_word n 0 f (λ i k. bit-none i ∙ sym (not-true (f i) (every-at n _ h i k)))) ∙ mod-eq_of_lt (pow_pos n)))

-- a value put in its range is in it, if the value at reset is
pub reset-good : {A : Type 0} (good : A → Bool) (reset : A) → good reset ≡ true → (x : A) → good (or_reset good reset x) ≡ true
reset-good good reset h x = tested (λ y. good y ≡ true) (good x) (λ k. k) (λ _. h)

-- ---- n values in their range

pub record AllGood (good : ℕ → Bool) (n : ℕ) (l : List ℕ) : Type 0 where
  pub places : length l ≡ n
  pub each : (i : ℕ) → i < n → good (get_or l i 0) ≡ true

module _ {good : ℕ → Bool} {n : ℕ} {l : List ℕ} where
  pub good-each : all_good good n l ≡ true → AllGood good n l
  unfolding all_good
  good-each h =
      let both = (and-eq-true_iff (eqb (length l) n) _).0 h in
      record { places = eqb-true (length l) n both.0; each = every-at n _ both.1 }

  pub good-all : AllGood good n l → all_good good n l ≡ true
  unfolding all_good
  good-all r = rw (eq-eqb (length l) n r.places) (every-by n _ r.each)

  -- such values stay as they are
  pub good-same : (reset : ℕ) → AllGood good n l → all_or_reset good reset n l ≡ l
  unfolding all_or_reset
  good-same reset r = tab-same n _ l 0 r.places (λ i k. taken (get_or l i 0) reset (r.each i k))

-- and any values become such
pub good-reset : (good : ℕ → Bool) (reset n : ℕ) (l : List ℕ) → good reset ≡ true → AllGood good n (all_or_reset good reset n l)
unfolding all_or_reset
good-reset good reset n l h = record {
  places = length-tab n _;
  each = λ i k. rw get_or-tab (reset-good good reset h (get_or l i 0));
}
