-- Numbers as bytes, little-endian.
-- Assumes nothing.
use Rattle.std.specs.Prelude.{List, [], ◌∷◌, ℕ, zero, suc, ◌+◌, ◌*◌, ◌/◌, ◌%◌, take, drop}

-- n in w bytes, the lowest first
unfoldable pub little : ℕ → ℕ → List ℕ
little zero n = []
little (suc w) n = n % 256 ∷ little w (n / 256)

-- the number whose bytes these are
unfoldable pub value : List ℕ → ℕ
value [] = 0
value (b ∷ l) = b + 256 * value l

-- the number in the w bytes from place i on
unfoldable pub field : ℕ → List ℕ → ℕ → ℕ
field w l i = value (take w (drop i l))
