-- A text in parts: the bytes between separators, and the bytes before a mark.
-- Assumes nothing.
use Rattle.std.specs.Prelude.{Bool, cond, List, [], ◌∷◌, ◌++◌, ℕ, eqb, ltb}
use Rattle.scan.specs.declared.Between.{Between}
use Rattle.scan.specs.declared.Between.TheVariants.{Words, Lines}

-- the parts of a text between the bytes that s picks out, where the bytes of p were read of the first part already; two separators in a row
-- have an empty part between them
unfoldable pub parts : (ℕ → Bool) → List ℕ → List ℕ → List (List ℕ)
parts s p [] = p ∷ []
parts s p (b ∷ l) = cond (s b) (p ∷ parts s [] l) (parts s (p ++ (b ∷ [])) l)

-- what separates words: a space and every byte below it; and lines: a line feed
unfoldable pub between : Between → ℕ → Bool
between Words b = ltb b 33
between Lines b = eqb b 10

-- the bytes before the first byte m
unfoldable pub before : ℕ → List ℕ → List ℕ
before m [] = []
before m (b ∷ l) = cond (eqb b m) [] (b ∷ before m l)

-- f over a list, from the left
unfoldable pub over : {S A : Type 0} → (S → A → S) → S → List A → S
over f s [] = s
over f s (a ∷ l) = over f (f s a) l
