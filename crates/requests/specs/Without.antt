-- The machine without one of the requests, over the same record: the present one with other steps or other calls for its arguments.
-- Assumes nothing.
use Rattle.std.specs.Prelude.{true, cond, ◌&&◌, ℕ, eqb, ltb}
use Rattle.ports.specs.Setters.{with_level}
use Rattle.ports.specs.Pins.{raw_levels, sensed}
use Rattle.ports.specs.declared.Pins.{Pins}
use Rattle.control.specs.Watchdog.{watched_in, watched}
use Rattle.calls.specs.Reply.{refuse, accept}
use Rattle.calls.specs.declared.Reply.{Reply}
use Rattle.calls.specs.declared.Event.{Event}
use Rattle.board.specs.Step.{step_with, stepped}
use Rattle.board.specs.Respond.{class_of, is_barred, refusal_by, passed_by, checked, called, respond_with}
use Rattle.board.specs.declared.Class.{Class}
use Rattle.board.specs.declared.Board.{Board}

-- ---- request 3

-- of the watchdog one stage runs
abbrev pub stepped_without3 : ℕ → ℕ → Board → Board
stepped_without3 v w b = step_with sensed (watched_in 1) v w b

-- call 25 wants selector 0; another is a 3, behind the 1 for its member
abbrev pub called_without3 : Board → Event → Reply Board
called_without3 b e = cond (eqb e.kind 25 && ltb 0 e.selector) (refuse (cond (ltb e.member 1) 3 1) b) (called b e)

unfoldable pub without3 : Board → Event → Reply Board
without3 b e = respond_with stepped_without3 called_without3 b e

-- ---- request 5

-- the checks are those with SWE 1, which bars nothing; past them a safe write with SWE 0 is answered 0 and changes nothing
abbrev pub called_without5 : Board → Event → Reply Board
called_without5 b e =
    let C : Class = class_of e.kind in
    checked (refusal_by C true e) b (cond (is_barred b.core.safety.writes e.kind) (accept b) (passed_by C b e))

unfoldable pub without5 : Board → Event → Reply Board
without5 b e = respond_with stepped called_without5 b e

-- ---- request 6

-- a pin's level is its raw level, which no filter holds back
unfoldable pub sensed_without6 : ℕ → Pins → Pins
sensed_without6 w x = with_level (raw_levels x w) x

abbrev pub stepped_without6 : ℕ → ℕ → Board → Board
stepped_without6 v w b = step_with sensed_without6 watched v w b

-- kind 30 is unknown
abbrev pub called_without6 : Board → Event → Reply Board
called_without6 b e = cond (eqb e.kind 30) (refuse 2 b) (called b e)

unfoldable pub without6 : Board → Event → Reply Board
without6 b e = respond_with stepped_without6 called_without6 b e
