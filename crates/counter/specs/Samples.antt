-- Document 01, "The step": the samples that a step takes and keeps, and the edges between two steps.
-- Assumes nothing.
use Rattle.std.specs.Prelude.{ℕ, ◌%◌, Bool, not, ◌&&◌, ◌==◌}
use Rattle.words.specs.Bits.{bit_at, flags}

-- the samples of a step are one number, A + 2 B + 4 index + 8 ExtIn
abbrev pub samples : Bool → Bool → Bool → Bool → ℕ
samples a b x e = flags a b x e

abbrev pub line_a : ℕ → Bool
line_a s = s % 2 == 1

abbrev pub line_b : ℕ → Bool
line_b s = bit_at s 1

abbrev pub index : ℕ → Bool
index s = bit_at s 2

abbrev pub extin : ℕ → Bool
extin s = bit_at s 3

-- ---- edges, against what the last step kept

abbrev pub index_rises : ℕ → ℕ → Bool
index_rises kept now = index now && not (index kept)

abbrev pub index_falls : ℕ → ℕ → Bool
index_falls kept now = index kept && not (index now)

abbrev pub extin_rises : ℕ → ℕ → Bool
extin_rises kept now = extin now && not (extin kept)

abbrev pub extin_falls : ℕ → ℕ → Bool
extin_falls kept now = extin kept && not (extin now)
