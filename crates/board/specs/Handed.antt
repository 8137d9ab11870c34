-- Document 01, "In a board handed in": the entry point. A field outside its range counts as its reset value; an event answered 0 stores the
-- board so; result 6 sets the lost count to 0 on the board handed in; every other result leaves that board as it is.
-- Assumes nothing.
use Rattle.std.specs.Prelude.{Bool, cond, ◌&&◌, ℕ, eqb, ltb, length, set, replicate}
use Rattle.words.specs.Bits.{every}
use Rattle.words.specs.Table.{tab}
use Rattle.counter.specs.Setters.{with_lost}
use Rattle.counter.specs.Repair.{channel_in_range, repaired, reset_channel}
use Rattle.ports.specs.Pins.{pins_in_range, repaired_pins, reset_pins}
use Rattle.ports.specs.Virtuals.{virtuals_in_range, repaired_virtuals, reset_virtuals}
use Rattle.control.specs.Whole.{core_in_range, repaired_core, reset_core}
use Rattle.calls.specs.Reply.{reply}
use Rattle.calls.specs.declared.Reply.{Reply}
use Rattle.calls.specs.declared.Event.{Event}
use Rattle.board.specs.Inputs.{channel_in}
use Rattle.board.specs.Respond.{with_channels, respond}
use Rattle.board.specs.declared.Board.{Board}

unfoldable pub reset_board : Board
reset_board = record { channels = replicate 6 reset_channel; pins = reset_pins; virtuals = reset_virtuals; core = reset_core }

-- six channels, and every field of the board in its range
unfoldable pub in_range : Board → Bool
in_range b =
    eqb (length b.channels) 6
    && every 6 (λ c. channel_in_range (channel_in b.channels c))
    && pins_in_range b.pins
    && virtuals_in_range b.virtuals
    && core_in_range b.core

-- a board handed in
unfoldable pub repaired_board : Board → Board
repaired_board b =
    record {
      channels = tab 6 (λ c. repaired (channel_in b.channels c));
      pins = repaired_pins b.pins;
      virtuals = repaired_virtuals b.virtuals;
      core = repaired_core b.core;
    }

-- the lost count of channel m to 0
unfoldable pub lost_cleared : ℕ → Board → Board
lost_cleared m b = cond (ltb m 6) (with_channels (set b.channels m (with_lost 0 (channel_in b.channels m))) b) b

-- what stays of the board b handed in, where the repaired one answers with this result and leaves that board
unfoldable pub kept : Board → ℕ → ℕ → Board → Board
kept b member result next = cond (eqb result 0) next (cond (eqb result 6) (lost_cleared member b) b)

unfoldable pub applied : Board → Event → Reply Board
applied b e =
    let r : Reply Board = respond (repaired_board b) e in
    reply (kept b e.member r.answer.result r.state) r.answer
