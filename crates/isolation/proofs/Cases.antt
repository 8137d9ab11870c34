-- Choices and tests that are equal where it counts.
-- Assumes nothing.
use mathlib.Core.Path.{◌≡◌, refl}
use mathlib.Core.Bool.{Bool, true, false, cond, ◌&&◌}
use Rattle.words.proofs.Cases.{paired}

-- two choices by one test are equal, if each branch is where the test says so
pub chosen : {A : Type 0} (t : Bool) {x y u v : A} → (t ≡ true → x ≡ u) → (t ≡ false → y ≡ v) → cond t x y ≡ cond t u v
chosen = paired ◌≡◌

-- a second test, where the first holds
pub joint : (s : Bool) {t u : Bool} → (s ≡ true → t ≡ u) → (s && t) ≡ (s && u)
joint true h = h refl
joint false h = refl
