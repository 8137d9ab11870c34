-- Lists of events, each of which meets the board that the event before it left.
-- Assumes nothing.
use Rattle.std.specs.Prelude.{◌≡◌, Bool, false, cond, List, [], ◌∷◌}
use Rattle.calls.specs.declared.Reply.{Reply}
use Rattle.calls.specs.declared.Event.{Event}
use Rattle.calls.specs.declared.Answer.{Answer}
use Rattle.board.specs.Respond.{respond}
use Rattle.board.specs.declared.Board.{Board}

-- no event of a list passes the test, on the board that it meets
abbrev pub NoneOf : (Board → Event → Bool) → Board → List Event → Type 0
NoneOf test b [] = Unit
NoneOf test b (e ∷ es) = (test b e ≡ false) × NoneOf test (respond b e).state es

-- of each event of a list, its answer as `show` has it
abbrev pub answers_as : (Event → Answer → Answer) → (Board → Event → Reply Board) → Board → List Event → List Answer
answers_as show machine b [] = []
answers_as show machine b (e ∷ es) = show e (machine b e).answer ∷ answers_as show machine (machine b e).state es

-- of each event of a list that passes the test, its answer
abbrev pub answers_to : (Event → Bool) → (Board → Event → Reply Board) → Board → List Event → List Answer
answers_to test machine b [] = []
answers_to test machine b (e ∷ es) =
    let rest : List Answer = answers_to test machine (machine b e).state es in
    cond (test e) ((machine b e).answer ∷ rest) rest
