-- Laws of numbers as they are read.
-- Assumes nothing.
use mathlib.Core.Path.{◌≡◌, refl, ap, sym, ◌∙◌}
use mathlib.Core.Bool.{true, false}
use mathlib.Core.List.{List, [], ◌∷◌}
use Prim.Native.Nat.{ℕ, ◌+◌, ◌*◌, ◌^◌, ◌≤◌, ◌<◌}
use native.Mathlib.Omega.{arith}
use borrow.Author.Tests.{lt-ltb, le-ltb, eq-eqb, ne_eqb}
use lib.ListN.{length, take, drop, length-take}
use Rattle.std.specs.Prelude.{Option, Some, None}
use Rattle.std.specs.Option.{SomeIff}
use Rattle.words.specs.Table.{tab}
use Rattle.scan.specs.Bytes.{ascii, same}
use Rattle.scan.specs.Parts.{over}
use Rattle.scan.specs.Numbers.{worth, extended, figure, number}
use Rattle.scan.proofs.Bytes.{same_not}

-- ---- one digit more

-- nothing goes on from no number
pub extended_none : (base b : ℕ) → extended base None b ≡ None
unfolding extended
extended_none base b = refl

-- nor with a byte that is no digit of the base
pub extended-other : (base : ℕ) (n : Option ℕ) (b : ℕ) → base ≤ worth b → extended base n b ≡ None
unfolding extended
extended-other base None b h = refl
extended-other base (Some n) b h = rw (le-ltb (worth b) base h)

module _ (base n b : ℕ) (d : worth b < base) where
  -- nor past 64 bits
  pub extended-over : 2 ^ 64 ≤ n * base + worth b → extended base (Some n) b ≡ None
  unfolding extended
  extended-over h = rw (lt-ltb (worth b) base d, le-ltb (n * base + worth b) (2 ^ 64) h)

  pub extended-more : n * base + worth b < 2 ^ 64 → extended base (Some n) b ≡ Some (n * base + worth b)
  unfolding extended
  extended-more h = rw (lt-ltb (worth b) base d, lt-ltb (n * base + worth b) (2 ^ 64) h)

-- so it is the sum where that fits
pub extended-sum : (base n b : ℕ) (r : Option ℕ) → worth b < base → SomeIff r (n * base + worth b < 2 ^ 64) (n * base + worth b) → r ≡ extended base (Some n) b
extended-sum base n b None d h = sym (extended-over base n b d (omega (arith, h)))
extended-sum base n b (Some m) d h = ap Some h.1 ∙ sym (extended-more base n b d h.0)

pub extended-digit : (base n d b : ℕ) → worth b ≡ d → d < base → n * base + d < 2 ^ 64 → extended base (Some n) b ≡ Some (n * base + d)
extended-digit base n d b e h k = rw (← e) (extended-more base n b (rw e h) (rw e k))

-- ---- all digits

pub figure-none : (base : ℕ) (l : List ℕ) → length l ≡ 0 → figure base l ≡ None
unfolding figure
figure-none base l h = rw (eq-eqb (length l) 0 h)

pub figure-some : (base : ℕ) (l : List ℕ) → 0 < length l → figure base l ≡ over (extended base) (Some 0) l
unfolding figure
figure-some base l h = rw (ne_eqb (length l) 0 (λ e. omega arith))

-- ---- decimal or hexadecimal

-- the two bytes 0x
pub zero-x : ascii "0x" ≡ 48 ∷ 120 ∷ []
unfolding ascii tab
zero-x = refl

pub number-hexadecimal : (l : List ℕ) → same (take 2 l) (48 ∷ 120 ∷ []) ≡ true → number l ≡ figure 16 (drop 2 l)
unfolding number
number-hexadecimal l h = rw (zero-x, h)

pub number-decimal : (l : List ℕ) → same (take 2 l) (48 ∷ 120 ∷ []) ≡ false → number l ≡ figure 10 l
unfolding number
number-decimal l h = rw (zero-x, h)

pub number_short : (l : List ℕ) → length l < 2 → number l ≡ figure 10 l
number_short l h = number-decimal l (same_not _ _ (λ e. omega (arith, simp length-take at (ap length e))))
