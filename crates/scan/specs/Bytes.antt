-- Quoted text as bytes, and equal bytes.
-- Assumes nothing.
use Rattle.std.specs.Prelude.{Bool, true, false, ◌&&◌, List, [], ◌∷◌, ℕ, eqb}
use Prim.Native.Char.{code}
use Prim.Native.String.{String, len, char_at}
use Rattle.words.specs.Table.{tab}

-- the bytes of a quoted text in ASCII
unfoldable pub ascii : String → List ℕ
ascii s = tab (len s) (λ i. code (char_at s i))

-- the same bytes in the same order
unfoldable pub same : List ℕ → List ℕ → Bool
same [] [] = true
same [] (b ∷ l) = false
same (a ∷ k) [] = false
same (a ∷ k) (b ∷ l) = eqb a b && same k l
