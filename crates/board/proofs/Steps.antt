-- The machine is a step where an event is an accepted step, and else a call; a step that is not accepted is refused.
-- Assumes nothing.
use mathlib.Core.Path.{◌≡◌, refl, ◌∙◌}
use mathlib.Core.Bool.{Bool, true, false, ◌&&◌, and-eq-true_iff}
use lib.Dec.{eqb}
use borrow.Author.Tests.{eqb-true}
use Rattle.calls.specs.Fields.{is_step}
use Rattle.calls.specs.Reply.{accept, refuse}
use Rattle.calls.specs.declared.Event.{Event}
use Rattle.board.specs.Respond.{refusal_by, called_by, called, respond_with, respond}
use Rattle.board.specs.Step.{stepped}
use Rattle.board.specs.declared.Board.{Board}

module _ (b : Board) (e : Event) where
  pub of-step : is_step e ≡ true → respond b e ≡ accept (stepped e.v e.w b)
  unfolding respond respond_with
  of-step h = rw h

  pub of-call : is_step e ≡ false → respond b e ≡ called b e
  unfolding respond respond_with
  of-call h = rw h

  -- a step that is not accepted is a 3
  pub of-refused-step : is_step e ≡ false → e.kind ≡ 0 → respond b e ≡ refuse 3 b
  unfolding called_by refusal_by
  of-refused-step h k = of-call h ∙ rw k

  -- so an accepted step is a step that is answered 0
  pub step-answered : (eqb e.kind 0 && eqb (respond b e).answer.result 0) ≡ is_step e
  step-answered = go (is_step e) refl (eqb e.kind 0) refl
    where
      go : (t : Bool) → is_step e ≡ t → (u : Bool) → eqb e.kind 0 ≡ u → (eqb e.kind 0 && eqb (respond b e).answer.result 0) ≡ t
      go true t u k = rw (of-step t, ((and-eq-true_iff (eqb e.kind 0) _).0 t).0)
      go false t true k = rw (of-refused-step t (eqb-true e.kind 0 k), k)
      go false t false k = rw k
