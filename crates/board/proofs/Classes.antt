-- The classes of kinds told apart by numbers.
-- Assumes nothing.
use mathlib.Core.Path.{◌≡◌, refl, ap, sym, ◌∙◌, subst}
use mathlib.Core.Bool.{Bool, true, false, ◌||◌}
use mathlib.Core.Logic.{◌⊎◌, inl, inr}
use Prim.Native.Nat.{ℕ, ◌≤◌, ◌<◌}
use native.Mathlib.Omega.{arith}
use lib.Dec.{eqb, ltb}
use borrow.Author.Tests.{ne_eqb, eqb-true, eqb-false, ltb-true, ltb-false}
use Rattle.words.proofs.Cases.{tested, neither}
use Rattle.board.specs.Respond.{class_of}
use Rattle.board.specs.declared.Class.{Class}
use Rattle.board.specs.declared.Class.TheVariants.{Step, OnChannel, OnPin, OnVirtual, OnBoard, Unknown}

abbrev pub code : Class → ℕ
code Step = 0
code OnChannel = 1
code OnPin = 2
code OnVirtual = 3
code OnBoard = 4
code Unknown = 5

-- a number is not two
pub other : (n a b : ℕ) → eqb n a ≡ true → eqb a b ≡ false → eqb n b ≡ false
other n a b h d = ap (λ k. eqb k b) (eqb-true n a h) ∙ d

-- the kinds of one class are no kinds of another
pub other-kind : (n k : ℕ) (C : Class) → class_of n ≡ C → eqb (code C) (code (class_of k)) ≡ false → eqb n k ≡ false
other-kind n k C p d = ne_eqb n k (λ h. eqb-false (code C) (code (class_of k)) d (ap code (sym p ∙ ap class_of h)))

-- the kinds of a class
abbrev pub InClass : ℕ → Class → Type 0
InClass k Step = k ≡ 0
InClass k OnChannel = (1 ≤ k) × (k < 13)
InClass k OnPin = ((13 ≤ k) × (k < 18)) ⊎ (k ≡ 30)
InClass k OnVirtual = (18 ≤ k) × (k < 22)
InClass k OnBoard = (22 ≤ k) × (k < 30)
InClass k Unknown = 31 ≤ k

pub kinds-of : (k : ℕ) (C : Class) → class_of k ≡ C → InClass k C
kinds-of k C h =
    let P = InClass k in
    subst P h
    (tested P (eqb k 0) (eqb-true k 0) (λ z.
    tested P (ltb k 13) (λ t. (omega (arith, eqb-false k 0 z), ltb-true k 13 t)) (λ a.
    tested P (ltb k 18 || eqb k 30) (on-pin (ltb k 18) refl (ltb-false k 13 a)) (λ p.
    let no = neither (ltb k 18) (eqb k 30) p in
    tested P (ltb k 22) (λ t. (ltb-false k 18 no.0, ltb-true k 22 t)) (λ a.
    tested P (ltb k 30) (λ t. (ltb-false k 22 a, ltb-true k 30 t)) (λ a. omega (arith, ltb-false k 30 a, eqb-false k 30 no.1)))))))
  where
    on-pin : (t : Bool) → ltb k 18 ≡ t → 13 ≤ k → (t || eqb k 30) ≡ true → ((13 ≤ k) × (k < 18)) ⊎ (k ≡ 30)
    on-pin true t l h = inl (l, ltb-true k 18 t)
    on-pin false t l h = inr (eqb-true k 30 h)
