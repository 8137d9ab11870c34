-- Numbers as they are read: digits of a base, of 64 bits at most.
-- Assumes nothing.
use Rattle.std.specs.Prelude.{Option, Some, None, cond, ◌&&◌, List, ℕ, ◌+◌, ◌-◌, ◌*◌, ◌^◌, eqb, ltb, length, take, drop}
use Rattle.scan.specs.Bytes.{ascii, same}
use Rattle.scan.specs.Parts.{over}

-- what a digit is worth, 16 for a byte that is none: 0 to 9 are 48 to 57, A to F 65 to 70, a to f 97 to 102
unfoldable pub worth : ℕ → ℕ
worth b = cond (ltb b 58) (cond (ltb b 48) 16 (b - 48))
    (cond (ltb b 71) (cond (ltb b 65) 16 (b - 55))
    (cond (ltb b 103) (cond (ltb b 97) 16 (b - 87)) 16))

-- a number with one more digit behind it: none if the byte is no digit of the base or 64 bits do not hold it
unfoldable pub extended : ℕ → Option ℕ → ℕ → Option ℕ
extended base None b = None
extended base (Some n) b = cond (ltb (worth b) base && ltb (n * base + worth b) (2 ^ 64)) (Some (n * base + worth b)) None

-- the number of some digits: there has to be one
unfoldable pub figure : ℕ → List ℕ → Option ℕ
figure base l = cond (eqb (length l) 0) None (over (extended base) (Some 0) l)

-- decimal digits, or hexadecimal ones behind 0x
unfoldable pub number : List ℕ → Option ℕ
number l = cond (same (take 2 l) (ascii "0x")) (figure 16 (drop 2 l)) (figure 10 l)
