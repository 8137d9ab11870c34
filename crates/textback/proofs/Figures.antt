-- Numbers that are printed are read again.
-- Assumes nothing.
use mathlib.Core.Path.{◌≡◌, refl, ap, ◌∙◌}
use mathlib.Core.Bool.{false}
use mathlib.Core.List.{List, [], ◌∷◌, ◌++◌}
use Prim.Native.Nat.{ℕ, zero, suc, ◌+◌, ◌*◌, ◌/◌, ◌%◌, ◌^◌, ◌≤◌, ◌<◌}
use native.Mathlib.Omega.{arith, pow_step}
use borrow.Author.Tests.{lt-ltb, le-ltb}
use lib.ListN.{length, get_or, take, length-append}
use Rattle.words.specs.Table.{tab}
use Rattle.buffers.proofs.Joined.{split}
use Rattle.text.specs.Decimal.{digits, decimal, digit, hexadecimal}
use Rattle.text.proofs.Decimal.{Figures, figures-append, figures-decimal, length-hexadecimal}
use Rattle.scan.specs.Bytes.{ascii, same}
use Rattle.scan.specs.Parts.{over}
use Rattle.scan.specs.Numbers.{worth, extended, number}
use Rattle.std.specs.Prelude.{Option, Some}
use Rattle.scan.proofs.Bytes.{same_not, same_refl}
use Rattle.scan.proofs.Parts.{over-append}
use Rattle.scan.proofs.Numbers.{extended-digit, figure-some, number-decimal, number-hexadecimal}

abbrev pub read : ℕ → Option ℕ
read n = Some n

-- ---- decimal

worth-digit : (d : ℕ) → d < 10 → worth (48 + d) ≡ d
unfolding worth
worth-digit d h = rw (lt-ltb (48 + d) 58 (omega arith), le-ltb (48 + d) 48 (omega arith)) (omega arith)

-- one digit more, and the number that it makes
more : (base n d b m : ℕ) → worth b ≡ d → d < base → n * base + d ≡ m → m < 2 ^ 64 → extended base (read n) b ≡ read m
more base n d b m w h e l = extended-digit base n d b w h (rw e l) ∙ ap read e

one-digit : (d : ℕ) → d < 10 → over (extended 10) (read 0) ((48 + d) ∷ []) ≡ read d
unfolding over
one-digit d h = more 10 0 d (48 + d) d (worth-digit d h) h (omega arith) (omega arith)

-- a digit behind digits that are read
digit-more : (base : ℕ) (l : List ℕ) (n d b m : ℕ) → over (extended base) (read 0) l ≡ read n → worth b ≡ d → d < base → n * base + d ≡ m → m < 2 ^ 64
    → over (extended base) (read 0) (l ++ (b ∷ [])) ≡ read m
unfolding over
digit-more base l n d b m r w h e k =
    over-append (extended base) (read 0) l (b ∷ []) ∙ ap (λ (a : Option ℕ). extended base a b) r ∙ more base n d b m w h e k

read-digits : (k n : ℕ) → n < 10 * 10 ^ k → n < 2 ^ 64 → over (extended 10) (read 0) (digits k n) ≡ read n
unfolding digits
read-digits zero n h b =
    let e : n % 10 ≡ n = omega arith in
    rw e (one-digit n (omega arith))
read-digits (suc k) n h b =
    split 10 n
    (λ m.
    simp (le-ltb n 10 m)
    (digit-more 10 (digits k (n / 10)) (n / 10) (n % 10) (48 + n % 10) n
    (read-digits k (n / 10) (omega (arith, pow_step 10 k)) (omega arith))
    (worth-digit (n % 10) (omega arith))
    (omega arith)
    (omega arith)
    b))
    (λ m. simp (lt-ltb n 10 m) (one-digit n m))

-- ---- bytes of numbers

some-digits : (k n : ℕ) → 0 < length (digits k n)
unfolding digits
some-digits zero n = omega arith
some-digits (suc k) n =
    split 10 n
    (λ m. simp (le-ltb n 10 m, length-append) (omega arith))
    (λ m. simp (lt-ltb n 10 m) (omega arith))

-- digits alone do not start with 0x
not-0x : (l : List ℕ) → Figures 58 l → same (take 2 l) (48 ∷ 120 ∷ []) ≡ false
not-0x l f = same_not (take 2 l) (48 ∷ 120 ∷ []) (second l f)
  where
    second : (l : List ℕ) → Figures 58 l → take 2 l ≡ 48 ∷ 120 ∷ [] → ⊥
    second [] f e = let h : ◌≡◌ {A = ℕ} 0 120 = ap (λ (k : List ℕ). get_or k 1 0) e in omega arith
    second (a ∷ []) f e = let h : ◌≡◌ {A = ℕ} 0 120 = ap (λ (k : List ℕ). get_or k 1 0) e in omega arith
    second (a ∷ b ∷ l) f e =
        let h : b ≡ 120 = ap (λ (k : List ℕ). get_or k 1 0) e in
        let g : b < 58 = f.1.0.1 in
        omega arith

pub some-decimal : (n : ℕ) → 0 < length (decimal n)
unfolding decimal
some-decimal n = some-digits 19 n

all-decimal : (n : ℕ) → n < 2 ^ 64 → over (extended 10) (read 0) (decimal n) ≡ read n
unfolding decimal
all-decimal n h = read-digits 19 n (omega arith) h

pub read-decimal : (n : ℕ) → n < 2 ^ 64 → number (decimal n) ≡ read n
read-decimal n h =
    number-decimal (decimal n) (not-0x (decimal n) (figures-decimal n)) ∙ figure-some 10 (decimal n) (some-decimal n) ∙ all-decimal n h

-- ---- hexadecimal

worth-hexadecimal : (d : ℕ) → d < 16 → worth (digit d) ≡ d
unfolding worth digit
worth-hexadecimal d h =
    split 10 d
    (λ m.
    rw (le-ltb d 10 m, le-ltb (87 + d) 58 (omega arith), le-ltb (87 + d) 71 (omega arith), lt-ltb (87 + d) 103 (omega arith), le-ltb (87 + d) 97 (omega arith))
    (omega arith))
    (λ m. rw (lt-ltb d 10 m, lt-ltb (48 + d) 58 (omega arith), le-ltb (48 + d) 48 (omega arith)) (omega arith))

figure-digit : (d : ℕ) → d < 16 → (48 ≤ digit d) × (digit d < 121)
unfolding digit
figure-digit d h =
    split 10 d
    (λ m. rw (le-ltb d 10 m) (omega arith, omega arith))
    (λ m. rw (lt-ltb d 10 m) (omega arith, omega arith))

read-hexadecimals : (k n : ℕ) → n < 16 ^ k → n < 2 ^ 64 → over (extended 16) (read 0) (hexadecimal k n) ≡ read n
unfolding hexadecimal over
read-hexadecimals zero n h b = ap read (omega arith)
read-hexadecimals (suc k) n h b =
    digit-more 16 (hexadecimal k (n / 16)) (n / 16) (n % 16) (digit (n % 16)) n
    (read-hexadecimals k (n / 16) (omega (arith, pow_step 16 k)) (omega arith))
    (worth-hexadecimal (n % 16) (omega arith))
    (omega arith)
    (omega arith)
    b

figures-hexadecimal : (k n : ℕ) → Figures 121 (hexadecimal k n)
unfolding hexadecimal
figures-hexadecimal zero n = tt
figures-hexadecimal (suc k) n =
    figures-append 121 (hexadecimal k (n / 16)) (digit (n % 16) ∷ []) (figures-hexadecimal k (n / 16)) (figure-digit (n % 16) (omega arith), tt)

-- eight digits behind 0x
unfoldable pub eight : ℕ → List ℕ
eight v = ascii "0x" ++ hexadecimal 8 v

eight-bytes : (v : ℕ) → eight v ≡ 48 ∷ 120 ∷ hexadecimal 8 v
unfolding eight ascii tab
eight-bytes v = refl

pub figures-eight : (v : ℕ) → Figures 121 (eight v)
figures-eight v = rw (eight-bytes v) ((omega arith, omega arith), ((omega arith, omega arith), figures-hexadecimal 8 v))

pub some-eight : (v : ℕ) → 0 < length (eight v)
some-eight v = rw (eight-bytes v) (omega arith)

pub read-eight : (v : ℕ) → v < 2 ^ 32 → number (eight v) ≡ read v
read-eight v h =
    ap number (eight-bytes v)
    ∙ number-hexadecimal (48 ∷ 120 ∷ hexadecimal 8 v) (same_refl (48 ∷ 120 ∷ []))
    ∙ figure-some 16 (hexadecimal 8 v) (rw (length-hexadecimal 8 v) (omega arith))
    ∙ read-hexadecimals 8 v (omega arith) (omega arith)

pub length-eight : (v : ℕ) → length (eight v) ≡ 10
length-eight v = rw (eight-bytes v) (omega (arith, length-hexadecimal 8 v))
