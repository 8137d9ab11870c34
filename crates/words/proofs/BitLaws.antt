-- Laws of the bits of a number.
-- Assumes nothing.
use mathlib.Core.Path.{◌≡◌, refl, ap, ap₂, sym, ◌∙◌}
use mathlib.Core.Bool.{Bool, true, false, cond, not, ◌&&◌, ◌||◌, beq}
use Prim.Native.Nat.{ℕ, zero, suc, ◌+◌, ◌*◌, ◌/◌, ◌%◌, ◌^◌, ◌<◌, zero-le, suc-le-suc}
use native.Mathlib.Nat.{le_of_suc-le-suc, not-suc-le-zero, div-div-eq-div-mul, pow-suc, mul_comm, zero-div, mod-lt, mod-eq_of_lt, zero-lt-suc}
use native.Mathlib.Omega.{arith}
use lib.Dec.{eqb, eqb-zero-suc, eqb-suc-zero, eqb-suc-suc}
use lib.Bits.{bit_and, bit_or, bit_xor, and_shr, or_shr, xor_shr, and_mod, or_mod, xor_mod}
use lib.Arith.{mod-mul}
use lib.Pow.{pow_pos, shl_exact}
use borrow.Author.Tests.{eq-eqb, ne_eqb}
use Rattle.words.specs.Bits.{bit, flag, word, some, put_bit}

pub flag-lt : (t : Bool) → flag t < 2
flag-lt true = omega arith
flag-lt false = omega arith

-- ---- a number by its lowest bit and its half

pub bit-suc : (v i : ℕ) → bit v (suc i) ≡ bit (v / 2) i
unfolding bit
bit-suc v i = ap (λ m. eqb (m % 2) 1) (ap (λ k. v / k) (pow-suc 2 i ∙ mul_comm (2 ^ i) 2) ∙ sym (div-div-eq-div-mul v 2 (2 ^ i)))

pub bit-zero : (t : Bool) (n : ℕ) → bit (flag t + 2 * n) 0 ≡ t
unfolding bit
bit-zero true n = ap (λ m. eqb m 1) (let h : (1 + 2 * n) / 1 % 2 ≡ 1 = omega arith in h)
bit-zero false n = ap (λ m. eqb m 1) (let h : (0 + 2 * n) / 1 % 2 ≡ 0 = omega arith in h)

pub half : (t : Bool) (n : ℕ) → (flag t + 2 * n) / 2 ≡ n
half true n = omega arith
half false n = omega arith

below : (t : Bool) (n m : ℕ) → n < m → flag t + 2 * n < m * 2
below true n m h = omega arith
below false n m h = omega arith

-- what holds of 0 and of 1 holds of each remainder by 2
digit : (P : ℕ → Type 0) → P 0 → P 1 → (v : ℕ) → P (v % 2)
digit P p q v = at (v % 2) (mod-lt v (zero-lt-suc 1))
  where
    at : (d : ℕ) → d < 2 → P d
    at zero h = p
    at (suc zero) h = q
    at (suc (suc d)) h = absurd (not-suc-le-zero (le_of_suc-le-suc (le_of_suc-le-suc h)))

pub low : (v : ℕ) → v % 2 ≡ flag (bit v 0)
unfolding bit
low v = ap (λ m. m % 2) (let h : v ≡ v / 1 = omega arith in h) ∙ digit (λ d. d ≡ flag (eqb d 1)) refl refl (v / 1)

-- ---- words

pub bit_word : (n : ℕ) (f : ℕ → Bool) (i : ℕ) → i < n → bit (word n f) i ≡ f i
unfolding word
bit_word zero f i h = absurd (not-suc-le-zero h)
bit_word (suc n) f zero h = bit-zero (f zero) (word n (λ i. f (suc i)))
bit_word (suc n) f (suc i) h =
    bit-suc _ i ∙ ap (λ v. bit v i) (half (f zero) (word n (λ i. f (suc i)))) ∙ bit_word n (λ i. f (suc i)) i (le_of_suc-le-suc h)

pub word_lt : (n : ℕ) (f : ℕ → Bool) → word n f < 2 ^ n
unfolding word
word_lt zero f = omega arith
word_lt (suc n) f = rw (pow-suc 2 n) (below (f zero) _ _ (word_lt n (λ i. f (suc i))))

pub word-ext : (n : ℕ) (f g : ℕ → Bool) → ((i : ℕ) → i < n → f i ≡ g i) → word n f ≡ word n g
unfolding word
word-ext zero f g h = refl
word-ext (suc n) f g h =
    ap₂ (λ t m. flag t + 2 * m) (h zero (suc-le-suc zero-le)) (word-ext n (λ i. f (suc i)) (λ i. g (suc i)) (λ i k. h (suc i) (suc-le-suc k)))

-- a bit put in its place stands there alone
module _ (n p : ℕ) (t : Bool) (w : ℕ) where
  pub bit-there : p < n → bit (put_bit n p t w) p ≡ t
  bit-there h = bit_word n _ p h ∙ ap (λ u. cond u t (bit w p)) (eq-eqb p p refl)

  pub bit-elsewhere : (i : ℕ) → i < n → (i ≡ p → ⊥) → bit (put_bit n p t w) i ≡ bit w i
  bit-elsewhere i h d = bit_word n _ i h ∙ ap (λ u. cond u t (bit w i)) (ne_eqb i p d)

-- a number cut to n bits is the word of its bits
pub word_of : (n v : ℕ) → v % 2 ^ n ≡ word n (bit v)
unfolding word
word_of zero v = omega arith
word_of (suc n) v =
    let e : v / 2 % 2 ^ n ≡ word n (λ i. bit v (suc i)) = word_of n (v / 2) ∙ word-ext n _ _ (λ i k. sym (bit-suc v i)) in
    ap (λ m. v % m) (pow-suc 2 n) ∙ mod-mul v (pow_pos n) (zero-lt-suc 1) ∙ ap₂ (λ x y. x * 2 + y) e (low v) ∙ omega arith

-- a number of n bits is so itself
pub word-own : (n v : ℕ) → v < 2 ^ n → word n (bit v) ≡ v
word-own n v h = sym (word_of n v) ∙ mod-eq_of_lt h

-- a number cut to n bits is the word of whatever its bits are
pub is_word : (n v : ℕ) (f : ℕ → Bool) → ((i : ℕ) → i < n → bit v i ≡ f i) → v % 2 ^ n ≡ word n f
is_word n v f h = word_of n v ∙ word-ext n (bit v) f h

-- a word is not 0 where one of its bits is 1
one_more : (t : Bool) (n : ℕ) → not (eqb (flag t + 2 * n) 0) ≡ (t || not (eqb n 0))
one_more true n = rw (ne_eqb (1 + 2 * n) 0 (omega arith))
one_more false zero = refl
one_more false (suc n) = rw (ne_eqb (0 + 2 * suc n) 0 (omega arith), ne_eqb (suc n) 0 (omega arith))

pub word_some : (n : ℕ) (f : ℕ → Bool) → not (eqb (word n f) 0) ≡ some n f
unfolding word some
word_some zero f = refl
word_some (suc n) f = one_more (f zero) (word n (λ i. f (suc i))) ∙ ap (λ t. f zero || t) (word_some n (λ i. f (suc i)))

-- and so is a number cut to n bits
pub is_some : (n v : ℕ) (f : ℕ → Bool) → ((i : ℕ) → i < n → bit v i ≡ f i) → not (eqb (v % 2 ^ n) 0) ≡ some n f
is_some n v f h = ap (λ m. not (eqb m 0)) (is_word n v f h) ∙ word_some n f

-- ---- the operations, bit by bit

pub bit-and : (a b i : ℕ) → bit (bit_and a b) i ≡ (bit a i && bit b i)
unfolding bit
bit-and a b i =
    ap (λ m. eqb (m % 2) 1) (and_shr a b i) ∙ ap (λ m. eqb m 1) (and_mod (a / 2 ^ i) (b / 2 ^ i) 1)
    ∙ digit (λ x. eqb (bit_and x (b / 2 ^ i % 2)) 1 ≡ (eqb x 1 && eqb (b / 2 ^ i % 2) 1))
    (digit (λ y. eqb (bit_and 0 y) 1 ≡ (eqb 0 1 && eqb y 1)) refl refl (b / 2 ^ i))
    (digit (λ y. eqb (bit_and 1 y) 1 ≡ (eqb 1 1 && eqb y 1)) refl refl (b / 2 ^ i)) (a / 2 ^ i)

pub bit-or : (a b i : ℕ) → bit (bit_or a b) i ≡ (bit a i || bit b i)
unfolding bit
bit-or a b i =
    ap (λ m. eqb (m % 2) 1) (or_shr a b i) ∙ ap (λ m. eqb m 1) (or_mod (a / 2 ^ i) (b / 2 ^ i) 1)
    ∙ digit (λ x. eqb (bit_or x (b / 2 ^ i % 2)) 1 ≡ (eqb x 1 || eqb (b / 2 ^ i % 2) 1))
    (digit (λ y. eqb (bit_or 0 y) 1 ≡ (eqb 0 1 || eqb y 1)) refl refl (b / 2 ^ i))
    (digit (λ y. eqb (bit_or 1 y) 1 ≡ (eqb 1 1 || eqb y 1)) refl refl (b / 2 ^ i)) (a / 2 ^ i)

pub bit-xor : (a b i : ℕ) → bit (bit_xor a b) i ≡ not (beq (bit a i) (bit b i))
unfolding bit
bit-xor a b i =
    ap (λ m. eqb (m % 2) 1) (xor_shr a b i) ∙ ap (λ m. eqb m 1) (xor_mod (a / 2 ^ i) (b / 2 ^ i) 1)
    ∙ digit (λ x. eqb (bit_xor x (b / 2 ^ i % 2)) 1 ≡ not (beq (eqb x 1) (eqb (b / 2 ^ i % 2) 1)))
    (digit (λ y. eqb (bit_xor 0 y) 1 ≡ not (beq (eqb 0 1) (eqb y 1))) refl refl (b / 2 ^ i))
    (digit (λ y. eqb (bit_xor 1 y) 1 ≡ not (beq (eqb 1 1) (eqb y 1))) refl refl (b / 2 ^ i)) (a / 2 ^ i)

-- ---- one bit, and no bit

pub bit-none : (i : ℕ) → bit 0 i ≡ false
unfolding bit
bit-none i = ap (λ m. eqb (m % 2) 1) (zero-div (2 ^ i))

pow_even : (p : ℕ) → 2 ^ suc p / 1 % 2 ≡ 0
pow_even p = rw (pow-suc 2 p) (omega arith)

pow-half : (p : ℕ) → 2 ^ suc p / 2 ≡ 2 ^ p
pow-half p = rw (pow-suc 2 p) (omega arith)

pub bit-pow : (p i : ℕ) → bit (2 ^ p) i ≡ eqb i p
unfolding bit
bit-pow zero zero = refl
bit-pow zero (suc i) = bit-suc 1 i ∙ bit-none i ∙ sym (eqb-suc-zero i)
bit-pow (suc p) zero = ap (λ m. eqb m 1) (pow_even p) ∙ sym (eqb-zero-suc p)
bit-pow (suc p) (suc i) = bit-suc (2 ^ suc p) i ∙ ap (λ v. bit v i) (pow-half p) ∙ bit-pow p i ∙ sym (eqb-suc-suc i p)

-- 1 << p
pub bit-shl : (p i : ℕ) → p < 64 → bit (1 * 2 ^ p % 2 ^ 64) i ≡ eqb i p
bit-shl p i h = ap (λ v. bit v i) (shl_exact 1 p 64 (omega arith) (omega arith) ∙ omega arith) ∙ bit-pow p i

-- ---- a where m is 1, else b

chosen : (m a b : Bool) → not (beq b (m && not (beq a b))) ≡ cond m a b
chosen true true true = refl
chosen true true false = refl
chosen true false true = refl
chosen true false false = refl
chosen false a true = refl
chosen false a false = refl

pub bit-select : (m a b i : ℕ) → bit (bit_xor b (bit_and m (bit_xor a b))) i ≡ cond (bit m i) (bit a i) (bit b i)
bit-select m a b i = simp (bit-xor, bit-and) (chosen (bit m i) (bit a i) (bit b i))

lacking : (a b : Bool) → not (beq a (a && b)) ≡ (a && not b)
lacking true true = refl
lacking true false = refl
lacking false b = refl

pub bit-without : (a b i : ℕ) → bit (bit_xor a (bit_and a b)) i ≡ (bit a i && not (bit b i))
bit-without a b i = simp (bit-xor, bit-and) (lacking (bit a i) (bit b i))
