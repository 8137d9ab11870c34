-- On a board in range the entry point is the machine.
-- Assumes nothing.
use mathlib.Core.Path.{◌≡◌, refl, sym}
use mathlib.Core.Bool.{true}
use lib.Dec.{eqb}
use Rattle.calls.specs.Reply.{reply}
use Rattle.calls.specs.declared.Reply.{Reply}
use Rattle.calls.specs.declared.Event.{Event}
use Rattle.board.specs.Respond.{respond}
use Rattle.board.specs.Handed.{in_range, kept, applied}
use Rattle.board.specs.declared.Board.{Board}
use Rattle.board.proofs.Same.{board-fields, board-same}
use Rattle.words.proofs.Cases.{tested}
use Rattle.reach.proofs.RangedBoard.{SoundEvent, respond-sound}

kept_same : (b : Board) (e : Event) (r : Reply Board) → SoundEvent b e r → kept b e.member r.answer.result r.state ≡ r.state
unfolding kept
kept_same b e r s =
    tested (λ x. x ≡ r.state) (eqb r.answer.result 0) (λ h. refl) (λ h.
    tested (λ x. x ≡ r.state) (eqb r.answer.result 6) (λ k. sym (s.lost k)) (λ k. sym (s.refused h k)))

pub entry-same : (b : Board) → in_range b ≡ true → (e : Event) → applied b e ≡ respond b e
unfolding applied
entry-same b r e =
    let x = respond b e in
    rw (board-same b r) (λ i. reply (kept_same b e x (respond-sound b (board-fields b r) e) i) x.answer)
