-- What an event leaves of a board handed in, by its result on the repaired board.
-- Assumes nothing.
use mathlib.Core.Path.{◌≡◌, refl}
use borrow.Author.Tests.{eq-eqb, ne_eqb}
use Rattle.calls.specs.Reply.{reply}
use Rattle.calls.specs.declared.Event.{Event}
use Rattle.board.specs.Respond.{respond}
use Rattle.board.specs.Handed.{repaired_board, lost_cleared, kept, applied}
use Rattle.board.specs.declared.Board.{Board}

module _ (b : Board) (e : Event) where
  -- the repaired board answers
  pub answered : (applied b e).answer ≡ (respond (repaired_board b) e).answer
  unfolding applied
  answered = refl

  pub stored : (respond (repaired_board b) e).answer.result ≡ 0 → applied b e ≡ respond (repaired_board b) e
  unfolding applied kept
  stored z = rw (eq-eqb _ 0 z)

  module _ (refused : (respond (repaired_board b) e).answer.result ≡ 0 → ⊥) where
    pub cleared : (respond (repaired_board b) e).answer.result ≡ 6 → applied b e ≡ reply (lost_cleared e.member b) (respond (repaired_board b) e).answer
    unfolding applied kept
    cleared s = rw (ne_eqb _ 0 refused, eq-eqb _ 6 s)

    pub unchanged : ((respond (repaired_board b) e).answer.result ≡ 6 → ⊥) → applied b e ≡ reply b (respond (repaired_board b) e).answer
    unfolding applied kept
    unchanged s = rw (ne_eqb _ 0 refused, ne_eqb _ 6 s)
