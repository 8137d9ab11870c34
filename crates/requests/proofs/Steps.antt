-- A law of every step is a law of every accepted step, on a board of the machine and on a board handed in.
-- Assumes nothing.
use mathlib.Core.Path.{◌≡◌, refl}
use mathlib.Core.Bool.{Bool, true, false}
use Prim.Native.Nat.{ℕ}
use native.Mathlib.Omega.{arith}
use Rattle.calls.specs.Fields.{is_step}
use Rattle.calls.specs.declared.Event.{Event}
use Rattle.board.specs.Respond.{respond}
use Rattle.board.specs.Step.{stepped}
use Rattle.board.specs.Handed.{repaired_board}
use Rattle.board.specs.declared.Board.{Board}
use Rattle.board.proofs.Steps.{of-step, of-refused-step}
use Rattle.board.proofs.Kept.{answered, stored}
use Rattle.requests.specs.Steps.{InStepsOf, InSteps, InStepsHandedOf, InStepsHanded}

module _ (P : Event → Board → Board → Type 0) where
  pub in-steps-of : (b : Board) → ((e : Event) → P e b (stepped e.v e.w b)) → InStepsOf P b
  in-steps-of b h e k a = go (is_step e) refl
    where
      go : (t : Bool) → is_step e ≡ t → P e b (respond b e).state
      go true s = rw (of-step b e s) (h e)
      go false s =
          let three : ◌≡◌ {A = ℕ} 3 0 = rw (of-refused-step b e s k) at a in
          absurd (omega arith)

  pub in-steps-handed-of : (b : Board) → InStepsOf P (repaired_board b) → InStepsHandedOf P b
  in-steps-handed-of b h e k a =
      let zero : (respond (repaired_board b) e).answer.result ≡ 0 = rw (answered b e) at a in
      rw (stored b e zero) (h e k zero)

module _ (P : Board → Board → Type 0) (b : Board) where
  pub in-steps : ((v w : ℕ) → P b (stepped v w b)) → InSteps P b
  in-steps h = in-steps-of (λ e. P) b (λ e. h e.v e.w)

  pub in-steps-handed : InSteps P (repaired_board b) → InStepsHanded P b
  in-steps-handed = in-steps-handed-of (λ e. P) b
