-- Requests 3, 5 and 6: a list for each that tells the machine from the one without the request.
-- Assumes nothing.
use Rattle.std.specs.Prelude.{◌≡◌, List, [], ◌∷◌, ◌++◌, map, ℕ, ◌^◌}
use Rattle.calls.specs.Reply.{number}
use Rattle.calls.specs.declared.Reply.{Reply}
use Rattle.calls.specs.Events.{call, register, lines}
use Rattle.calls.specs.declared.Event.{Event}
use Rattle.calls.specs.declared.Answer.{Answer}
use Rattle.board.specs.Respond.{respond}
use Rattle.board.specs.Handed.{reset_board}
use Rattle.board.specs.declared.Board.{Board}
use Rattle.requests.specs.Lists.{answers_as}
use Rattle.requests.specs.Without.{without3, without5, without6}

-- intervals 2, 1 and 1, and a status read after each of four steps
unfoldable pub stages : List Event
stages =
    call 25 0 2 ∷ register 25 0 1 1 ∷ register 25 0 2 1 ∷ call 26 0 1
    ∷ lines 0 0 ∷ call 29 0 0 ∷ lines 0 0 ∷ call 29 0 0 ∷ lines 0 0 ∷ call 29 0 0 ∷ lines 0 0 ∷ call 29 0 0
    ∷ []

-- each safe write with SWE 0, two that do not pass the checks before, and each with SWE 1
unfoldable pub safe_writes : List Event
safe_writes =
    call 15 0 1 ∷ call 16 0 0 ∷ call 19 5 1 ∷ call 20 5 0 ∷ call 15 48 1 ∷ call 19 5 2
    ∷ call 23 0 1 ∷ call 15 0 1 ∷ call 16 0 0 ∷ call 19 5 1 ∷ call 20 5 0
    ∷ []

-- a filter of 2 on pin 5, and a read of the level after each of six steps with the levels 1, 1, 0, 1, 1, 1
unfoldable pub bounces : List Event
bounces =
    let up : List Event = lines 0 (2 ^ 5) ∷ call 17 5 0 ∷ [] in
    call 30 5 2 ∷ (up ++ up ++ (lines 0 0 ∷ call 17 5 0 ∷ []) ++ up ++ up ++ up)

-- the answers to a list from reset, and those of a machine without a request
pub record Apart (without : Board → Event → Reply Board) (es : List Event) (now before : List Answer) : Type 0 where
  pub answers : answers_as (λ e a. a) respond reset_board es ≡ now
  pub earlier : answers_as (λ e a. a) without reset_board es ≡ before

-- answers that have a value
abbrev pub values : List ℕ → List Answer
values = map (number 0)

-- answers that have a result
abbrev pub results : List ℕ → List Answer
results = map (λ r. number r 0)

pub record EachApart : Type 0 where
  pub request3 : Apart without3 stages
      (values (0 ∷ 0 ∷ 0 ∷ 0 ∷ 0 ∷ 8 ∷ 0 ∷ 10 ∷ 0 ∷ 26 ∷ 0 ∷ 58 ∷ []))
      (number 0 0 ∷ number 3 0 ∷ number 3 0 ∷ values (0 ∷ 0 ∷ 8 ∷ 0 ∷ 10 ∷ 0 ∷ 10 ∷ 0 ∷ 10 ∷ []))
  pub request5 : Apart without5 safe_writes
      (results (12 ∷ 12 ∷ 12 ∷ 12 ∷ 1 ∷ 3 ∷ 0 ∷ 0 ∷ 0 ∷ 0 ∷ 0 ∷ []))
      (results (0 ∷ 0 ∷ 0 ∷ 0 ∷ 1 ∷ 3 ∷ 0 ∷ 0 ∷ 0 ∷ 0 ∷ 0 ∷ []))
  pub request6 : Apart without6 bounces
      (values (0 ∷ 0 ∷ 0 ∷ 0 ∷ 0 ∷ 0 ∷ 0 ∷ 0 ∷ 0 ∷ 0 ∷ 0 ∷ 0 ∷ 1 ∷ []))
      (number 2 0 ∷ values (0 ∷ 1 ∷ 0 ∷ 1 ∷ 0 ∷ 0 ∷ 0 ∷ 1 ∷ 0 ∷ 1 ∷ 0 ∷ 1 ∷ []))
