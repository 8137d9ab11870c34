-- Numbers as text: decimal and hexadecimal digits in ASCII.
-- Assumes nothing.
use Rattle.std.specs.Prelude.{cond, List, [], ◌∷◌, ◌++◌, ℕ, zero, suc, ◌+◌, ◌/◌, ◌%◌, ltb}

-- the digits of n with the highest first and no zeros in front, where k + 1 digits are enough
unfoldable pub digits : ℕ → ℕ → List ℕ
digits zero n = (48 + n % 10) ∷ []
digits (suc k) n = cond (ltb n 10) ((48 + n) ∷ []) (digits k (n / 10) ++ ((48 + n % 10) ∷ []))

-- a number of 64 bits: 20 digits are enough
unfoldable pub decimal : ℕ → List ℕ
decimal n = digits 19 n

-- a number and the byte behind it
abbrev pub entry : ℕ → ℕ → List ℕ
entry n b = decimal n ++ (b ∷ [])

-- a digit below 16: 0 to 9, a to f
unfoldable pub digit : ℕ → ℕ
digit d = cond (ltb d 10) (48 + d) (87 + d)

-- the lowest k hexadecimal digits of n, the highest first
unfoldable pub hexadecimal : ℕ → ℕ → List ℕ
hexadecimal zero n = []
hexadecimal (suc k) n = hexadecimal k (n / 16) ++ (digit (n % 16) ∷ [])
