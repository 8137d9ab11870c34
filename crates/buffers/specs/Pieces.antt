-- Lists of bytes in pieces: a piece put into a list, a piece cut from it, and pieces joined in order.
-- Assumes nothing.
use Rattle.std.specs.Prelude.{List, [], ◌++◌, ℕ, zero, suc, ◌+◌, ◌*◌, length, take, drop}

-- d with the bytes of p from place at on, and all else as it was
unfoldable pub put : List ℕ → ℕ → List ℕ → List ℕ
put d at p = take at d ++ (p ++ drop (at + length p) d)

-- of a list in pieces of w bytes, the one at place k, or what there is of it
unfoldable pub piece : ℕ → List ℕ → ℕ → List ℕ
piece w l k = take w (drop (w * k) l)

-- f 0, f 1, .. f (n - 1), one after the other
unfoldable pub joined : ℕ → (ℕ → List ℕ) → List ℕ
joined zero f = []
joined (suc n) f = joined n f ++ f n
