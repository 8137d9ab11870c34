-- Numbers of 16 bits for the 48 pins, in bit planes: bit p of plane j is bit j of pin p's number.
-- Assumes nothing.
use Rattle.std.specs.Prelude.{cond, List, ℕ, eqb, get_or}
use Rattle.words.specs.Bits.{bit, word}
use Rattle.words.specs.Table.{tab}

-- pin p's number
unfoldable pub number_at : List ℕ → ℕ → ℕ
number_at x p = word 16 (λ j. bit (get_or x j 0) p)

-- plane j of the numbers f 0 to f 47, and all planes
abbrev pub plane_of : (ℕ → ℕ) → ℕ → ℕ
plane_of f j = word 48 (λ p. bit (f p) j)

unfoldable pub planes : (ℕ → ℕ) → List ℕ
planes f = tab 16 (plane_of f)

-- the planes with the number n in the place of pin p's
abbrev pub put_number : ℕ → ℕ → List ℕ → List ℕ
put_number p n x = planes (λ q. cond (eqb q p) n (number_at x q))
