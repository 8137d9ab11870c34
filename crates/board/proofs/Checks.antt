-- The checks of an event that is no accepted step: what is known of one that passes them, and what the machine makes of it.
-- Assumes nothing.
use mathlib.Core.Path.{◌≡◌, refl, ap, sym, ◌∙◌}
use mathlib.Core.Bool.{Bool, true, false, not}
use Prim.Native.Nat.{ℕ, ◌<◌}
use native.Mathlib.Omega.{arith}
use borrow.Author.Tests.{ne_eqb, ltb-true, not-true, not-false}
use lib.Dec.{ltb}
use Rattle.words.proofs.Cases.{tested}
use Rattle.calls.specs.Reply.{refuse}
use Rattle.calls.specs.Fields.{fits}
use Rattle.calls.specs.Refused.{code_of}
use Rattle.calls.specs.declared.refusal.Refusal.{Refusal}
use Rattle.calls.specs.declared.refusal.Refusal.TheVariants.{Member, Kind, Field, Running, Empty, Lost, Enabled, Barred}
use Rattle.calls.specs.declared.Event.{Event}
use Rattle.board.specs.Respond.{class_of, is_barred, refusal_in, refusal_by, passed_by, called_by, called}
use Rattle.board.specs.declared.Class.{Class}
use Rattle.board.specs.declared.Class.TheVariants.{Step, OnChannel, OnPin, OnVirtual, OnBoard, Unknown}
use Rattle.board.specs.declared.Board.{Board}

-- a refusal is told by a result that is not 0
pub told : (r : Refusal) → code_of r ≡ 0 → ⊥
told Member z = absurd (omega (arith, z))
told Kind z = absurd (omega (arith, z))
told Field z = absurd (omega (arith, z))
told Running z = absurd (omega (arith, z))
told Empty z = absurd (omega (arith, z))
told Lost z = absurd (omega (arith, z))
told Enabled z = absurd (omega (arith, z))
told Barred z = absurd (omega (arith, z))

-- what is to be shown of what the checks find, by the cases of the checks
module _ (n : ℕ) (writes : Bool) (e : Event) where
  pub by-checks : (P : ℕ → Type 0)
      → (ltb e.member n ≡ false → P 1)
      → (ltb e.member n ≡ true → fits e ≡ false → P 3)
      → (ltb e.member n ≡ true → fits e ≡ true → is_barred writes e.kind ≡ true → P 12)
      → (ltb e.member n ≡ true → fits e ≡ true → is_barred writes e.kind ≡ false → P 0)
      → P (refusal_in n writes e)
  unfolding refusal_in
  by-checks P missing unfit barred none =
      tested P (not (ltb e.member n)) (λ t. missing (not-true _ t)) (λ t.
      tested P (not (fits e)) (λ u. unfit (not-false _ t) (not-true _ u)) (λ u.
      tested P (is_barred writes e.kind) (barred (not-false _ t) (not-false _ u)) (none (not-false _ t) (not-false _ u))))

  -- one that passes names a member
  pub named : refusal_in n writes e ≡ 0 → e.member < n
  named =
      by-checks (λ r. r ≡ 0 → e.member < n) (λ _ z. absurd (omega (arith, z))) (λ _ _ z. absurd (omega (arith, z))) (λ _ _ _ z. absurd (omega (arith, z)))
      (λ h _ _ _. ltb-true _ _ h)

-- it is a call on the board where its class is none of channel, pin and virtual output
pub on-board : (C : Class) (writes : Bool) (e : Event) → refusal_by C writes e ≡ 0
    → (C ≡ OnChannel → ⊥) → (C ≡ OnPin → ⊥) → (C ≡ OnVirtual → ⊥) → C ≡ OnBoard
unfolding refusal_by
on-board Step writes e r x y z = let no : ◌≡◌ {A = ℕ} 3 0 = r in absurd (omega arith)
on-board OnChannel writes e r x y z = absurd (x refl)
on-board OnPin writes e r x y z = absurd (y refl)
on-board OnVirtual writes e r x y z = absurd (z refl)
on-board OnBoard writes e r x y z = refl
on-board Unknown writes e r x y z = let no : ◌≡◌ {A = ℕ} 2 0 = r in absurd (omega arith)

-- C is the class that was found, n what the checks found
module _ (b : Board) (e : Event) (C : Class) (n : ℕ) (class : C ≡ class_of e.kind) (found : n ≡ refusal_by C b.core.safety.writes e) where
  pub refused-call : (n ≡ 0 → ⊥) → called b e ≡ refuse n b
  unfolding called_by
  refused-call h = rw (← class, ← found, ne_eqb n 0 h)

  module _ (D : Class) (is : C ≡ D) (none : n ≡ 0) where
    pub passes : refusal_by D b.core.safety.writes e ≡ 0
    passes = ap (λ (X : Class). refusal_by X b.core.safety.writes e) (sym is) ∙ sym found ∙ none

    pub passed-call : called b e ≡ passed_by D b e
    unfolding called_by
    passed-call = rw (← class, ← found, none) (ap (λ (X : Class). passed_by X b e) is)
