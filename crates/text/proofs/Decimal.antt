-- Laws of decimal and hexadecimal digits.
-- Assumes nothing.
use mathlib.Core.Path.{◌≡◌, refl, ◌∙◌}
use mathlib.Core.List.{List, [], ◌∷◌, ◌++◌}
use Prim.Native.Nat.{ℕ, zero, suc, ◌+◌, ◌-◌, ◌/◌, ◌%◌, ◌^◌, ◌≤◌, ◌<◌}
use native.Mathlib.Omega.{arith, pow_step}
use borrow.Author.Tests.{lt-ltb, le-ltb}
use lib.ListN.{length, get_or, length-append}
use Rattle.std.specs.Fmt as std
use Rattle.std.proofs.lemmas.Fmt.{decimal_digit, decimal_step}
use Rattle.buffers.proofs.Joined.{split}
use Rattle.text.specs.Decimal.{digits, decimal, digit, hexadecimal}

pub digits-one : (k n : ℕ) → k ≡ 0 → digits k n ≡ (48 + n % 10) ∷ []
unfolding digits
digits-one k n e = rw e

pub digits-few : (k n : ℕ) → 0 < k → n < 10 → digits k n ≡ (48 + n) ∷ []
unfolding digits
digits-few zero n h b = absurd (omega arith)
digits-few (suc k) n h b = simp (lt-ltb n 10 b)

pub digits_more : (k n : ℕ) → 0 < k → 10 ≤ n → digits k n ≡ digits (k - 1) (n / 10) ++ ((48 + n % 10) ∷ [])
unfolding digits
digits_more zero n h b = absurd (omega arith)
digits_more (suc k) n h b = let e : suc k - 1 ≡ k = omega arith in simp (le-ltb n 10 b, e)

pub length_digits : (k n : ℕ) → length (digits k n) ≤ k + 1
unfolding digits
length_digits zero n = omega arith
length_digits (suc k) n =
    split 10 n
    (λ b. simp (le-ltb n 10 b, length-append) (omega (arith, length_digits k (n / 10))))
    (λ b. simp (lt-ltb n 10 b) (omega arith))

pub length_decimal : (n : ℕ) → length (decimal n) ≤ 20
unfolding decimal
length_decimal n = length_digits 19 n

-- a number of one digit
pub one_digit : (n : ℕ) → n < 10 → decimal n ≡ digit n ∷ []
unfolding decimal digit
one_digit n b = digits-few 19 n (omega arith) b ∙ simp (lt-ltb n 10 b)

-- d + 1 digits are enough below 10^(d + 1)
digits-below : (d k n : ℕ) → n < 10 ^ suc d → length (digits k n) ≤ suc d
unfolding digits
digits-below d zero n h = omega arith
digits-below zero (suc k) n h = simp (lt-ltb n 10 h) (omega arith)
digits-below (suc d) (suc k) n h =
    split 10 n
    (λ b. simp (le-ltb n 10 b, length-append) (omega (arith, digits-below d k (n / 10) (omega (arith, pow_step 10 (suc d))))))
    (λ b. simp (lt-ltb n 10 b) (omega arith))

pub decimal-below : (d n : ℕ) → n < 10 ^ suc d → length (decimal n) ≤ suc d
unfolding decimal
decimal-below d n h = digits-below d 19 n h

-- ---- the library's digits

-- the digits of a number that d + 1 of them are enough for
digits-printed : (d n : ℕ) → n < 10 ^ suc d → n < 2 ^ 64 → std.decimal n ≡ digits d n
unfolding digits
digits-printed zero n h w = let e : n % 10 ≡ n = omega arith in rw e (decimal_digit n (omega arith))
digits-printed (suc d) n h w =
    split 10 n
    (λ b. simp (le-ltb n 10 b, decimal_step n b w, digits-printed d (n / 10) (omega (arith, pow_step 10 (suc d))) (omega arith)))
    (λ b. simp (lt-ltb n 10 b) (decimal_digit n b))

-- what the library prints of a number of 64 bits
pub decimal_printed : (n : ℕ) → n < 2 ^ 64 → std.decimal n ≡ decimal n
unfolding decimal
decimal_printed n w = digits-printed 19 n (omega arith) w

-- ---- the bytes of digits

-- each byte is from 48 up to m
abbrev pub Figures : ℕ → List ℕ → Type 0
Figures m [] = Unit {0}
Figures m (b ∷ l) = ((48 ≤ b) × (b < m)) × Figures m l

pub figures-append : (m : ℕ) (k l : List ℕ) → Figures m k → Figures m l → Figures m (k ++ l)
figures-append m [] l a b = b
figures-append m (x ∷ k) l a b = (a.0, figures-append m k l a.1 b)

pub figures-at : (m : ℕ) (l : List ℕ) → Figures m l → (j : ℕ) → j < length l → (48 ≤ get_or l j 0) × (get_or l j 0 < m)
figures-at m [] a j h = absurd (omega arith)
figures-at m (b ∷ l) a zero h = a.0
figures-at m (b ∷ l) a (suc j) h = figures-at m l a.1 j (omega arith)

figures-digits : (k n : ℕ) → Figures 58 (digits k n)
unfolding digits
figures-digits zero n = ((omega arith, omega arith), tt)
figures-digits (suc k) n =
    split 10 n
    (λ m. simp (le-ltb n 10 m) (figures-append 58 (digits k (n / 10)) ((48 + n % 10) ∷ []) (figures-digits k (n / 10)) ((omega arith, omega arith), tt)))
    (λ m. simp (lt-ltb n 10 m) ((omega arith, omega arith), tt))

pub figures-decimal : (n : ℕ) → Figures 58 (decimal n)
unfolding decimal
figures-decimal n = figures-digits 19 n

-- ---- hexadecimal digits

pub hexadecimal-none : (k n : ℕ) → k ≡ 0 → hexadecimal k n ≡ []
unfolding hexadecimal
hexadecimal-none k n e = rw e

pub hexadecimal-more : (k n : ℕ) → 0 < k → hexadecimal k n ≡ hexadecimal (k - 1) (n / 16) ++ (digit (n % 16) ∷ [])
unfolding hexadecimal
hexadecimal-more zero n h = absurd (omega arith)
hexadecimal-more (suc k) n h = let e : suc k - 1 ≡ k = omega arith in rw e

pub length-hexadecimal : (k n : ℕ) → length (hexadecimal k n) ≡ k
unfolding hexadecimal
length-hexadecimal zero n = refl
length-hexadecimal (suc k) n = simp (length-append, length-hexadecimal k (n / 16)) (omega arith)
