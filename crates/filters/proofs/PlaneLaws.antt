-- Laws of numbers in bit planes.
-- Assumes nothing.
use mathlib.Core.Path.{◌≡◌, refl, ap, sym, ◌∙◌}
use mathlib.Core.Bool.{Bool, true, false, cond}
use mathlib.Core.List.{List}
use Prim.Native.Nat.{ℕ, ◌^◌, ◌<◌}
use native.Mathlib.Omega.{arith}
use lib.Dec.{eqb}
use lib.ListN.{length, get_or, replicate}
use borrow.Author.Tests.{eqb-true}
use Rattle.words.specs.Bits.{bit, word, every}
use Rattle.words.specs.Table.{tab}
use Rattle.words.proofs.BitLaws.{bit_word, word-ext, word-own, word_lt}
use Rattle.words.proofs.Every.{every-at}
use Rattle.words.proofs.Tables.{get_or-tab, tab-ext, tab-same}
use Rattle.filters.specs.Planes.{number_at, plane_of, planes}

pub planes-ext : (f g : ℕ → ℕ) → ((p : ℕ) → p < 48 → f p ≡ g p) → planes f ≡ planes g
unfolding planes
planes-ext f g h = tab-ext 16 (plane_of f) (plane_of g) (λ j k. word-ext 48 _ _ (λ p l. ap (λ n. bit n j) (h p l)))

-- bit j of a pin's number is the pin's bit of plane j
pub bit-number : (x : List ℕ) (p j : ℕ) → j < 16 → bit (number_at x p) j ≡ bit (get_or x j 0) p
unfolding number_at
bit-number x p j h = bit_word 16 _ j h

pub number_lt : (x : List ℕ) (p : ℕ) → number_at x p < 2 ^ 16
unfolding number_at
number_lt x p = word_lt 16 _

-- planes hold 16 bits of each number, and so all of a number that has no more
pub number-held : (f : ℕ → ℕ) (p : ℕ) → p < 48 → number_at (planes f) p ≡ word 16 (bit (f p))
unfolding number_at planes
number-held f p h = word-ext 16 _ (bit (f p)) (λ j l. ap (λ v. bit v p) (get_or-tab 16 (plane_of f) j 0 l) ∙ bit_word 48 _ p h)

pub number-planes : (f : ℕ → ℕ) (p : ℕ) → p < 48 → f p < 2 ^ 16 → number_at (planes f) p ≡ f p
number-planes f p h k = number-held f p h ∙ word-own 16 (f p) k

-- planes of 48 bits are those of their numbers
pub planes-own : (x : List ℕ) → length x ≡ 16 → ((j : ℕ) → j < 16 → get_or x j 0 < 2 ^ 48) → planes (number_at x) ≡ x
unfolding planes
planes-own x s h =
    tab-same 16 (plane_of (number_at x)) x 0 s
    (λ j k. word-ext 48 _ (bit (get_or x j 0)) (λ p l. bit-number x p j k) ∙ word-own 48 (get_or x j 0) (h j k))

-- at 0 all of them are 0
pub zeros : planes (λ p. 0) ≡ replicate 16 0
unfolding planes tab word bit
zeros = refl

pub number-zero : (p : ℕ) → p < 48 → number_at (replicate 16 0) p ≡ 0
number-zero p h = ap (λ (x : List ℕ). number_at x p) (sym zeros) ∙ number-planes (λ _. 0) p h (omega arith)

-- planes that are 0
pub all-zero : (x : List ℕ) → length x ≡ 16 → every 16 (λ j. eqb (get_or x j 0) 0) ≡ true → x ≡ planes (λ p. 0)
unfolding tab
all-zero x s h = sym (tab-same 16 (λ j. 0) x 0 s (λ j k. sym (eqb-true (get_or x j 0) 0 (every-at 16 _ h j k)))) ∙ sym zeros

pub bit-chosen : (t : Bool) (a b j : ℕ) → cond t (bit a j) (bit b j) ≡ bit (cond t a b) j
bit-chosen true a b j = refl
bit-chosen false a b j = refl
