-- Request 5, a safe write with SWE 0 is told: which events are answered 12 and what they leave, its place among the refusals, and what stays as it
-- was.
-- Assumes nothing.
use Rattle.std.specs.Prelude.{◌≡◌, Bool, true, not, cond, ◌&&◌, ◌↔◌, List, [], ◌∷◌, map, eqb}
use Rattle.calls.specs.Reply.{reply, number, accept}
use Rattle.calls.specs.declared.Reply.{Reply}
use Rattle.calls.specs.Fields.{fits}
use Rattle.calls.specs.declared.Event.{Event}
use Rattle.calls.specs.declared.Answer.{Answer}
use Rattle.board.specs.Respond.{class_of, is_barred, respond}
use Rattle.board.specs.Refusals.{is_missing, InOrder}
use Rattle.board.specs.Handed.{applied}
use Rattle.board.specs.Runs.{finish, replies, remainder}
use Rattle.board.specs.declared.Board.{Board}
use Rattle.requests.specs.Lists.{NoneOf}
use Rattle.requests.specs.Without.{without5}

-- ---- an event

-- a call 15, 16, 19 or 20 that comes while SWE is 0
abbrev pub is_early : Board → Event → Bool
is_early b e = is_barred b.core.safety.writes e.kind

-- its member is there, and its fields fit
abbrev pub is_well_formed : Event → Bool
is_well_formed e = not (is_missing (class_of e.kind) e.member) && fits e

-- 12
abbrev pub is_told : Answer → Bool
is_told a = eqb a.result 12

-- an event on a board handed in: 12 for such a call and for nothing else; then the other three numbers are 0, and the board is the one handed in
pub record Told (b : Board) (e : Event) : Type 0 where
  pub only : ((applied b e).answer.result ≡ 12) ↔ ((is_early b e && is_well_formed e) ≡ true)
  pub nothing : (applied b e).answer.result ≡ 12 → applied b e ≡ reply b (number 12 0)

-- ---- lists, beside the machine before

-- the machine before said 0 for 12
abbrev pub silenced : Reply Board → Reply Board
silenced r = cond (is_told r.answer) (accept r.state) r

pub record AsItWas (b : Board) (es : List Event) : Type 0 where
  -- all boards are as they were, and all answers but 12
  pub silent : replies without5 b es ≡ map silenced (replies respond b es)
  -- where no such call comes while SWE is 0, all answers are
  pub same : NoneOf is_early b es → replies without5 b es ≡ replies respond b es

-- ---- lists, with the calls that are answered 12 taken out

-- the events that are not answered 12
abbrev pub others : (Board → Event → Reply Board) → Board → List Event → List Event
others machine b es = remainder machine (λ e a. is_told a) (λ e. e) b es

-- the replies that are no 12
abbrev pub untold : List (Reply Board) → List (Reply Board)
untold [] = []
untold (r ∷ rs) = cond (is_told r.answer) (untold rs) (r ∷ untold rs)

-- alone, those events get the answers and leave the boards that they had among all
pub record TakenOut (machine : Board → Event → Reply Board) (b : Board) (es : List Event) : Type 0 where
  pub replied : replies machine b (others machine b es) ≡ untold (replies machine b es)
  pub last : finish machine b (others machine b es) ≡ finish machine b es

-- every board there is, the one at reset among them, and every board handed in
pub record Request5 : Type 0 where
  pub told : (b : Board) (e : Event) → Told b e
  pub order : (b : Board) (e : Event) → InOrder b e
  pub before : (b : Board) (es : List Event) → AsItWas b es
  pub taken_out : (b : Board) (es : List Event) → TakenOut respond b es
  pub handed : (b : Board) (es : List Event) → TakenOut applied b es
