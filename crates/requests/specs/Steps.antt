-- A law of a step speaks of two boards, the one that the step finds and the one that it leaves, and it may speak of the step's event.
-- Assumes nothing.
use Rattle.std.specs.Prelude.{◌≡◌}
use Rattle.calls.specs.declared.Event.{Event}
use Rattle.board.specs.Respond.{respond}
use Rattle.board.specs.Handed.{repaired_board, applied}
use Rattle.board.specs.declared.Board.{Board}

-- P of every accepted step on b
abbrev pub InStepsOf : (Event → Board → Board → Type 0) → Board → Type 0
InStepsOf P b = (e : Event) → e.kind ≡ 0 → (respond b e).answer.result ≡ 0 → P e b (respond b e).state

abbrev pub InSteps : (Board → Board → Type 0) → Board → Type 0
InSteps P b = InStepsOf (λ e. P) b

-- P of every step that the entry point accepts on b as handed in; the step finds the repaired board
abbrev pub InStepsHandedOf : (Event → Board → Board → Type 0) → Board → Type 0
InStepsHandedOf P b = (e : Event) → e.kind ≡ 0 → (applied b e).answer.result ≡ 0 → P e (repaired_board b) (applied b e).state

abbrev pub InStepsHanded : (Board → Board → Type 0) → Board → Type 0
InStepsHanded P b = InStepsHandedOf (λ e. P) b
