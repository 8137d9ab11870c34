-- Request 1, over the record before a step and the record after it: with OM 1 ExtOut pulses if and only if the step left an entry more in the queue,
-- and that entry is of a match.
-- Assumes nothing.
use Rattle.std.specs.Prelude.{◌≡◌, true, not, ◌||◌, ◌↔◌, List, ℕ, ◌+◌, ◌-◌, ◌<◌, get_or}
use Rattle.words.specs.Bits.{bit}
use Rattle.counter.specs.Mode.{OM, OP}
use Rattle.counter.specs.Advance.{Inputs, advance}
use Rattle.counter.specs.Repair.{channel_in_range}
use Rattle.counter.specs.declared.Channel.{Channel}
use Rattle.calls.specs.declared.Event.{Event}
use Rattle.board.specs.Inputs.{channel_in}
use Rattle.board.specs.Respond.{respond}
use Rattle.board.specs.Handed.{reset_board, in_range}
use Rattle.board.specs.Runs.{finish}
use Rattle.board.specs.declared.Board.{Board}
use Rattle.requests.specs.Steps.{InSteps, InStepsHanded}

-- the reasons of the entry that came last
abbrev pub last_reasons : Channel → ℕ
last_reasons c = get_or c.reasons (c.held - 1) 0

-- the queue has one entry more than before, and that last entry has reason bit 0 or 1
pub record EntryOfMatch (before after : Channel) : Type 0 where
  pub longer : after.held ≡ before.held + 1
  pub matched : (bit (last_reasons after) 0 || bit (last_reasons after) 1) ≡ true

-- ExtOut is high with OP 0, or low with OP 1, with an entry for it and only then
abbrev pub Pulse : Channel → Channel → Type 0
Pulse before after = (after.extout ≡ not (OP before.mode)) ↔ EntryOfMatch before after

-- a channel's own step, whatever its lines, its neighbour and the clock give; halted or running
abbrev pub OnChannels : Type 0
OnChannels = (c : Channel) → channel_in_range c ≡ true → OM c.mode ≡ 1 → (i : Inputs) → Pulse c (advance i c)

-- each channel of a board
abbrev pub OnBoards : Board → Board → Type 0
OnBoards b after =
    (c : ℕ) → c < 6 → OM (channel_in b.channels c).mode ≡ 1 → Pulse (channel_in b.channels c) (channel_in after.channels c)

-- every board in range, every board handed in, and after every list of events from reset
pub record Request1 : Type 0 where
  pub channels : OnChannels
  pub boards : (b : Board) → in_range b ≡ true → InSteps OnBoards b
  pub handed : (b : Board) → InStepsHanded OnBoards b
  pub lists : (es : List Event) → InSteps OnBoards (finish respond reset_board es)
