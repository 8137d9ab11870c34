-- Demand 3: one claim about two whole lists, each from a reset board of its own.
-- Assumes nothing.
use Rattle.std.specs.Prelude.{◌≡◌, List}
use Rattle.calls.specs.declared.Reply.{Reply}
use Rattle.calls.specs.declared.Event.{Event}
use Rattle.calls.specs.declared.Answer.{Answer}
use Rattle.board.specs.Handed.{reset_board, applied}
use Rattle.board.specs.Runs.{finish, remainder}
use Rattle.board.specs.declared.Board.{Board}
use Rattle.isolation.specs.Lists.{all_answers, kept_answers, AfterEach}
use Rattle.isolation.specs.Members.{Members}
use Rattle.isolation.specs.Settings.{untold, told}
use Rattle.isolation.specs.Closed.{Closed}
use Rattle.isolation.specs.Remainder.{struck, shown}
use Rattle.isolation.specs.Same.{SameMembers}

-- of a machine over boards
module _ (machine : Board → Event → Reply Board) (M : Members) where
  -- members are closed after every event
  abbrev pub ClosedThroughout : List Event → Type 0
  ClosedThroughout es = AfterEach machine told (Closed M) untold reset_board es

  abbrev pub remainder_of : List Event → List Event
  remainder_of es = remainder machine (struck M) (shown M) reset_board es

  -- the lists have one remainder
  abbrev pub Alike : List Event → List Event → Type 0
  Alike es fs = remainder_of es ≡ remainder_of fs

  -- what the events of the remainder were answered in the whole list
  abbrev pub answers_of : List Event → List Answer
  answers_of es = kept_answers machine (struck M) reset_board es

  pub record SameToMembers (es fs : List Event) : Type 0 where
    pub answers : answers_of es ≡ answers_of fs
    pub members : SameMembers M (finish machine reset_board es) (finish machine reset_board fs)

  -- one list beside its remainder run alone, from a reset board of its own
  pub record AsAlone (es : List Event) : Type 0 where
    pub answers : answers_of es ≡ all_answers machine reset_board (remainder_of es)
    pub members : SameMembers M (finish machine reset_board es) (finish machine reset_board (remainder_of es))

-- two lists: if members are closed after every event of both, and the lists are alike, nothing that a member sees tells them apart
abbrev pub Isolation : (Board → Event → Reply Board) → Type 0
Isolation machine =
    (M : Members) (es fs : List Event)
    → ClosedThroughout machine M es
    → ClosedThroughout machine M fs
    → Alike machine M es fs
    → SameToMembers machine M es fs

-- of the machine that `apply` promises to be
abbrev pub Demand3 : Type 0
Demand3 = Isolation applied

-- what it comes from, for one list: members that are closed throughout fare as if their calls, the board calls and the steps had been the whole list
abbrev pub Undisturbed : Type 0
Undisturbed = (M : Members) (es : List Event) → ClosedThroughout applied M es → AsAlone applied M es
