-- Tests that are asked only under another.
-- Assumes nothing.
use mathlib.Core.Path.{◌≡◌, refl}
use mathlib.Core.Bool.{Bool, true, false, not, ◌||◌}

pub asked : (s t : Bool) → (not s || t) ≡ true → s ≡ true → t ≡ true
asked true t h k = h
asked false true h k = refl
asked false false h k = k
