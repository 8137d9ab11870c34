-- The bytes that the library makes of a number, and the number that it reads from bytes, are those of `little` and `value`.
-- Assumes nothing.
use mathlib.Core.Path.{◌≡◌, refl, ap, ◌∙◌}
use mathlib.Core.List.{List, [], ◌∷◌, ◌++◌}
use Prim.Native.Nat.{ℕ, zero, suc, ◌*◌, ◌/◌, ◌%◌, ◌^◌, ◌<◌}
use native.Mathlib.Nat.{div-one, div-div-eq-div-mul, pow-succ', mul_comm}
use native.Mathlib.Omega.{arith}
use lib.ListN.{length, take, get_or}
use lib.Seq.{length-take-le, take-suc, take_all}
use Rattle.std.specs.Int.{byte_at, byte_worth, bytes_low_first, sum_through, to_le_bytes, from_le_bytes, w32, w64}
use Rattle.buffers.specs.Little.{little, value}
use Rattle.buffers.proofs.Little.{value-append}

byte-digit : (i n : ℕ) → byte_at i n ≡ n / 256 ^ i % 256
byte-digit zero n = rw div-one
byte-digit (suc i) n = refl

-- k bytes of a number from byte i on
bytes-little : (k i n : ℕ) → bytes_low_first i k n ≡ little k (n / 256 ^ i)
unfolding little
bytes-little zero i n = refl
bytes-little (suc k) i n =
    let next : n / 256 ^ suc i ≡ n / 256 ^ i / 256 = rw (pow-succ' 256 i, mul_comm 256 (256 ^ i), ← div-div-eq-div-mul n (256 ^ i) 256) in
    rw (byte-digit i n, bytes-little k (suc i) n, next)

pub four_bytes : (n : ℕ) → to_le_bytes w32 n ≡ little 4 n
four_bytes n = bytes-little 4 0 n ∙ ap (little 4) (div-one n)

pub eight_bytes : (n : ℕ) → to_le_bytes w64 n ≡ little 8 n
eight_bytes n = bytes-little 8 0 n ∙ ap (little 8) (div-one n)

worth : (i b : ℕ) → byte_worth i b ≡ 256 ^ i * b
worth zero b = omega arith
worth (suc i) b = mul_comm b (256 ^ suc i)

-- the number that is read from the first bytes of a list
value-bytes : (k : ℕ) (l : List ℕ) → k < length l → sum_through (λ i. byte_worth i (get_or l i 0)) k ≡ value (take (suc k) l)
unfolding value
value-bytes zero [] h = absurd (omega arith)
value-bytes zero (b ∷ l) h = omega arith
value-bytes (suc k) l h =
    let short : k < length l = omega arith in
    let before : length (take (suc k) l) ≡ suc k = length-take-le (suc k) l (omega arith) in
    let cut : take (suc (suc k)) l ≡ take (suc k) l ++ (get_or l (suc k) 0 ∷ []) = take-suc l (suc k) 0 h in
    let last : value (get_or l (suc k) 0 ∷ []) ≡ get_or l (suc k) 0 = omega arith in
    rw (cut, value-append (take (suc k) l) (get_or l (suc k) 0 ∷ []), before, last, ← worth (suc k) (get_or l (suc k) 0), value-bytes k l short)

pub four-value : (l : List ℕ) → length l ≡ 4 → from_le_bytes w32 l ≡ value l
four-value l h = value-bytes 3 l (omega arith) ∙ ap value (take_all 4 l (omega arith))

pub eight-value : (l : List ℕ) → length l ≡ 8 → from_le_bytes w64 l ≡ value l
eight-value l h = value-bytes 7 l (omega arith) ∙ ap value (take_all 8 l (omega arith))
