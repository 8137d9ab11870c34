-- Laws of equal bytes.
-- Assumes nothing.
use mathlib.Core.Path.{◌≡◌, refl, ap}
use mathlib.Core.Bool.{Bool, true, false, ◌&&◌}
use mathlib.Core.List.{List, [], ◌∷◌}
use Prim.Native.Nat.{ℕ}
use borrow.Author.Tests.{eqb-true, eq-eqb}
use Rattle.std.specs.Cmp.Lexicographic.{pointwise}
use lib.Dec.{eqb}
use Rattle.scan.specs.Bytes.{same}

pub same_refl : (l : List ℕ) → same l l ≡ true
unfolding same
same_refl [] = refl
same_refl (b ∷ l) = simp (eq-eqb b b refl, same_refl l)

both : (s t : Bool) → (s && t) ≡ true → (s ≡ true) × (t ≡ true)
both true t h = (refl, h)
both false t h = (h, cc)

pub same-eq : (k l : List ℕ) → same k l ≡ true → k ≡ l
unfolding same
same-eq [] [] h = refl
same-eq [] (b ∷ l) h = cc
same-eq (a ∷ k) [] h = cc
same-eq (a ∷ k) (b ∷ l) h =
    let t = both _ _ h in
    let head : a ≡ b = eqb-true a b t.0 in
    let tail : k ≡ l = same-eq k l t.1 in
    cc

-- other bytes are not the same
pub same_not : (k l : List ℕ) → (k ≡ l → ⊥) → same k l ≡ false
same_not k l h = told (same k l) (λ e. h (same-eq k l e))
  where
    told : (t : Bool) → (t ≡ true → ⊥) → t ≡ false
    told true f = absurd (f refl)
    told false f = refl

-- `==` on slices says the same
pub same-pointwise : (k l : List ℕ) → same k l ≡ pointwise eqb k l
unfolding same
same-pointwise [] [] = refl
same-pointwise [] (b ∷ l) = refl
same-pointwise (a ∷ k) [] = refl
same-pointwise (a ∷ k) (b ∷ l) = ap (λ t. eqb a b && t) (same-pointwise k l)
