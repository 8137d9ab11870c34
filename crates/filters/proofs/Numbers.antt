-- Laws of numbers by their bits: one bit more at the top, which of two numbers is the lower, and the number after one.
-- Assumes nothing.
use mathlib.Core.Path.{◌≡◌, refl, ap, ap₂, sym, ◌∙◌}
use mathlib.Core.Bool.{Bool, true, false, cond, not, ◌&&◌, ◌||◌, beq, or-true, or-false}
use Prim.Native.Nat.{ℕ, zero, suc, ◌+◌, ◌*◌, ◌/◌, ◌^◌, ◌≤◌, ◌<◌}
use native.Mathlib.Nat.{pow-suc}
use native.Mathlib.Numerals.{add-one}
use native.Mathlib.Omega.{arith}
use lib.Dec.{ltb}
use lib.Pow.{pow_pos}
use borrow.Author.Tests.{lt-ltb, le-ltb, ltb-true, ltb-false}
use Rattle.words.specs.Bits.{bit, flag, word}
use Rattle.words.proofs.BitLaws.{bit-suc, bit-zero, bit-none, half, low, word_lt}

-- ---- a bit more at the top

top : (m a w : ℕ) (t : Bool) → a + 2 * (w + m * flag t) ≡ a + 2 * w + m * 2 * flag t
top m a w true = omega arith
top m a w false = omega arith

word-top : (n : ℕ) (f : ℕ → Bool) → word (suc n) f ≡ word n f + 2 ^ n * flag (f n)
unfolding word
word-top zero f = omega arith
word-top (suc n) f =
    ap (λ w. flag (f zero) + 2 * w) (word-top n (λ i. f (suc i))) ∙ top (2 ^ n) (flag (f zero)) (word n (λ i. f (suc i))) (f (suc n))
    ∙ ap (λ m. flag (f zero) + 2 * word n (λ i. f (suc i)) + m * flag (f (suc n))) (sym (pow-suc 2 n))

-- ---- which of two numbers is the lower

same-order : (a b x y : ℕ) → (a < b → x < y) → (b ≤ a → y ≤ x) → ltb x y ≡ ltb a b
same-order a b x y f g = go (ltb a b) refl
  where
    go : (t : Bool) → ltb a b ≡ t → ltb x y ≡ ltb a b
    go true e = lt-ltb x y (f (ltb-true a b e)) ∙ sym e
    go false e = le-ltb x y (g (ltb-false a b e)) ∙ sym e

-- the bit at the top tells, where it differs
below_top : (m a b : ℕ) → a < m → b < m → (x y : Bool) → ltb (a + m * flag x) (b + m * flag y) ≡ cond (not (beq x y)) y (ltb a b)
below_top m a b h k true true = same-order a b (a + m * 1) (b + m * 1) (λ l. omega arith) (λ l. omega arith)
below_top m a b h k true false = le-ltb (a + m * 1) (b + m * 0) (omega arith)
below_top m a b h k false true = lt-ltb (a + m * 0) (b + m * 1) (omega arith)
below_top m a b h k false false = same-order a b (a + m * 0) (b + m * 0) (λ l. omega arith) (λ l. omega arith)

pub below_more : (n : ℕ) (f g : ℕ → Bool)
    → cond (not (beq (f n) (g n))) (g n) (ltb (word n f) (word n g)) ≡ ltb (word (n + 1) f) (word (n + 1) g)
below_more n f g =
    rw (add-one n, word-top n f, word-top n g) (sym (below_top (2 ^ n) (word n f) (word n g) (word_lt n f) (word_lt n g) (f n) (g n)))

-- a number is above 0 where one of its bits is 1
above-top : (m a : ℕ) → 0 < m → (y : Bool) → ltb 0 (a + m * flag y) ≡ (ltb 0 a || y)
above-top m a h true = lt-ltb 0 (a + m * 1) (omega arith) ∙ sym (or-true (ltb 0 a))
above-top m a h false = same-order 0 a 0 (a + m * 0) (λ l. omega arith) (λ l. omega arith) ∙ sym (or-false (ltb 0 a))

pub above_more : (n : ℕ) (f : ℕ → Bool) → (ltb 0 (word n f) || f n) ≡ ltb 0 (word (n + 1) f)
above_more n f = rw (add-one n, word-top n f) (sym (above-top (2 ^ n) (word n f) (pow_pos n) (f n)))

-- ---- one more

-- the carry into bit j where c is added to n
unfoldable pub carried : ℕ → Bool → ℕ → Bool
carried n c zero = c
carried n c (suc j) = bit n j && carried n c j

-- the lowest bit and the half of a sum
lowest-sum : (b c : Bool) (m : ℕ) → flag b + 2 * m + flag c ≡ flag (not (beq b c)) + 2 * (m + flag (b && c))
lowest-sum true true m = omega arith
lowest-sum true false m = omega arith
lowest-sum false true m = omega arith
lowest-sum false false m = omega arith

added : (n : ℕ) (c : Bool) → n + flag c ≡ flag (not (beq (bit n 0) c)) + 2 * (n / 2 + flag (bit n 0 && c))
added n c =
    let halved : n ≡ flag (bit n 0) + 2 * (n / 2) = omega (arith, low n) in
    ap (λ v. v + flag c) halved ∙ lowest-sum (bit n 0) c (n / 2)

carried-half : (n : ℕ) (c : Bool) (j : ℕ) → carried (n / 2) (bit n 0 && c) j ≡ carried n c (suc j)
unfolding carried
carried-half n c zero = refl
carried-half n c (suc j) = ap₂ ◌&&◌ (sym (bit-suc n j)) (carried-half n c j)

sum-bit : (n : ℕ) (c : Bool) (j : ℕ) → bit (n + flag c) j ≡ not (beq (bit n j) (carried n c j))
unfolding carried
sum-bit n c zero = ap (λ v. bit v 0) (added n c) ∙ bit-zero _ _
sum-bit n c (suc j) =
    bit-suc _ j ∙ ap (λ v. bit v j) (ap (λ v. v / 2) (added n c) ∙ half (not (beq (bit n 0) c)) _) ∙ sum-bit (n / 2) (bit n 0 && c) j
    ∙ ap₂ (λ s t. not (beq s t)) (sym (bit-suc n j)) (carried-half n c j)

-- bit j of one more where t, else of 0
pub counted-bit : (t : Bool) (n j : ℕ) → (t && not (beq (bit n j) (carried n t j))) ≡ bit (cond t (n + 1) 0) j
counted-bit true n j = sym (sum-bit n true j)
counted-bit false n j = sym (bit-none j)
