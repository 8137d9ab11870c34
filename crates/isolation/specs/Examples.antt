-- Lists of demand 3 written down: two alike lists with closed members and what both are answered; and questions about the wording.
-- Assumes nothing.
use Rattle.std.specs.Prelude.{◌≡◌, Bool, true, false, ◌||◌, List, [], ◌∷◌, ◌++◌, ℕ, ◌+◌, ◌*◌, ◌^◌, eqb, length, replicate}
use Rattle.calls.specs.Reply.{number}
use Rattle.calls.specs.Events.{call, lines}
use Rattle.calls.specs.declared.Event.{Event}
use Rattle.calls.specs.declared.Answer.{Answer}
use Rattle.board.specs.Handed.{reset_board, applied}
use Rattle.board.specs.Runs.{finish}
use Rattle.isolation.specs.Members.{Members}
use Rattle.isolation.specs.Same.{level_of}
use Rattle.isolation.specs.Claim.{ClosedThroughout, remainder_of, Alike, answers_of}
use Rattle.isolation.specs.Tests.{is_closed_throughout}

unfoldable pub among : List ℕ → ℕ → Bool
among [] n = false
among (m ∷ ms) n = eqb n m || among ms n

-- the channels, the pins and the virtual outputs of the lists
abbrev pub members : List ℕ → List ℕ → List ℕ → Members
members cs ps os = record { is_channel = among cs; is_pin = among ps; is_virtual = among os }

-- ---- two alike lists

-- channels 0 and 1, pins 7 and 47, virtual output 2
unfoldable pub group : Members
group = members (0 ∷ 1 ∷ []) (7 ∷ 47 ∷ []) (2 ∷ [])

-- The settings use every clause. Channel 0 counts steps while virtual output 2 is high, from 4294967295 on; channel 1 counts its carries and captures
-- the edges of its ExtOut; pin 7 shows ExtOut of channel 1 through a filter of 1 and is its ExtIn; a high pin 47 sets safemode, and virtual output 2 is
-- low in that step.
unfoldable pub setup : List Event
setup =
    call 22 0 3 ∷ call 18 2 1
    ∷ call 4 0 50 ∷ call 1 0 0x020C0030 ∷ call 2 0 4294967295 ∷ call 9 0 0 ∷ call 6 0 0
    ∷ call 4 1 7 ∷ call 1 1 0x000C0042 ∷ call 5 1 24 ∷ call 6 1 0
    ∷ call 13 7 2 ∷ call 30 7 1 ∷ []

-- the outsiders' part: the queue of channel 2 overflows and tells it, channel 3 cascades from it, pin 5 is driven by it, pin 9 has a filter, virtual
-- output 0 is high; and an unknown kind, a channel that is not there, a refused step
unfoldable pub neighbours : List Event
neighbours =
    replicate 17 (call 8 2 0)
    ++ (call 11 2 0 ∷ call 1 2 0x00020030 ∷ call 6 2 0 ∷ call 1 3 0x40 ∷ call 6 3 0 ∷ call 13 5 3 ∷ call 30 9 1 ∷ call 18 0 1 ∷ call 99 0 0 ∷ call 10 6 0 ∷ call 0 1 0 ∷ [])

-- three steps and readings; a step with pin 47 up and readings; two steps more and readings. V and W are the outsiders' part of each step: lines of channel 2, pins 5 and 9
unfoldable pub trial : ℕ → ℕ → List Event
trial v w =
    lines v w ∷ lines 0 0 ∷ lines v w
    ∷ call 11 1 0 ∷ call 17 7 0 ∷ call 10 0 0
    ∷ lines 0 (w + 2 ^ 47)
    ∷ call 29 0 0 ∷ call 11 1 0
    ∷ lines v 0 ∷ lines 0 w
    ∷ call 10 0 0 ∷ call 10 1 0 ∷ call 17 7 0 ∷ call 28 0 0 ∷ []

-- with the neighbours and without them
unfoldable pub shared : List Event
shared = setup ++ (neighbours ++ trial (7 * 2 ^ 6) (2 ^ 5 + 2 ^ 9))

unfoldable pub sole : List Event
sole = setup ++ trial 0 0

-- what the events of the remainder are answered in both
unfoldable pub given : List Answer
given =
    replicate 16 (number 0 0)
    ++ (record { result = 0; value = 1; timestamp = 0; reason = 16 }
    ∷ number 0 0 ∷ number 0 2
    ∷ number 0 0
    ∷ number 0 1 ∷ number 5 0
    ∷ number 0 0 ∷ number 0 0
    ∷ number 0 2 ∷ number 0 1 ∷ number 0 0 ∷ number 0 0 ∷ [])

-- different lists to which the claim applies, and what it then says, computed
pub record Example (M : Members) (es fs : List Event) (xs : List Answer) : Type 0 where
  pub longer : length es ≡ 28 + length fs
  pub closed : ClosedThroughout applied M es × ClosedThroughout applied M fs
  pub alike : Alike applied M es fs
  pub answers : (answers_of applied M es ≡ xs) × (answers_of applied M fs ≡ xs)

-- ---- questions about the wording, each with the reading that is taken

pub record Wording : Type 0 where
  -- a board call stays in the remainder where channel 0 is an outsider
  pub board_calls : (length (remainder_of applied (members [] (47 ∷ []) (0 ∷ [])) (call 18 0 1 ∷ call 22 0 1 ∷ lines 0 0 ∷ [])) ≡ 3)
      × (length (remainder_of applied (members [] (47 ∷ []) (0 ∷ [])) (call 18 0 1 ∷ lines 0 0 ∷ [])) ≡ 2)
  -- a refused call on an outsider is left out, one on a member stays
  pub refusals : Alike applied (members (0 ∷ []) [] []) (call 11 1 0 ∷ call 11 0 0 ∷ []) (call 11 0 0 ∷ [])
      × (length (remainder_of applied (members (0 ∷ []) [] []) (call 11 0 0 ∷ call 11 0 0 ∷ [])) ≡ 2)
  -- so is a safe write that is answered 12 (request 5)
  pub safe_writes : Alike applied (members [] (0 ∷ []) []) (call 15 1 1 ∷ call 15 0 1 ∷ []) (call 15 0 1 ∷ [])
      × (answers_of applied (members [] (0 ∷ []) []) (call 15 1 1 ∷ call 15 0 1 ∷ []) ≡ number 12 0 ∷ [])
  -- so is a write of a filter (request 6)
  pub filters : Alike applied (members [] (0 ∷ []) []) (call 30 1 2 ∷ call 30 0 2 ∷ []) (call 30 0 2 ∷ [])
      × (length (remainder_of applied (members [] (0 ∷ []) []) (call 30 0 2 ∷ call 30 1 2 ∷ call 30 0 3 ∷ [])) ≡ 2)
  -- the settings of a halted channel bind
  pub halted : is_closed_throughout applied (members (1 ∷ []) [] []) (call 1 1 0x40 ∷ []) ≡ false
  -- members that were unclosed once are not closed throughout
  pub once : is_closed_throughout applied (members (0 ∷ []) [] []) (call 4 0 3 ∷ lines 0 0 ∷ call 4 0 54 ∷ []) ≡ false
  -- a channel whose index is its own ExtOut needs no other
  pub itself : is_closed_throughout applied (members (0 ∷ []) [] []) (call 1 0 0x000D0032 ∷ []) ≡ true
  -- A of an outsider is no part of a step
  pub line_a : Alike applied (members (0 ∷ []) [] []) (lines 1 0 ∷ []) (lines 9 0 ∷ [])
  -- the level of a virtual output at the end is by the safemode that a call 24 after the last step left
  pub level_at_end : (level_of 0 (finish applied reset_board (call 18 0 1 ∷ call 22 0 1 ∷ lines 0 0 ∷ call 24 0 0 ∷ [])) ≡ true)
      × (level_of 0 (finish applied reset_board (call 18 0 1 ∷ call 22 0 1 ∷ lines 0 0 ∷ [])) ≡ false)
