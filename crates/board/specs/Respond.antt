-- Document 01: every event on a board whose fields are in their ranges. An accepted step is a step; every other event is a call, and kind 0
-- among these a step whose fields did not fit. The refusals 2, 1, 3 and 12 are decided here, in this order; 4, 7, 6 and 5 by the calls.
-- Assumes nothing.
use Rattle.std.specs.Prelude.{Bool, cond, not, ◌&&◌, ◌||◌, List, ℕ, eqb, ltb, set}
use Rattle.counter.specs.declared.Channel.{Channel}
use Rattle.ports.specs.declared.Pins.{Pins}
use Rattle.ports.specs.declared.Virtuals.{Virtuals}
use Rattle.control.specs.declared.Core.{Core}
use Rattle.calls.specs.Reply.{reply, refuse, accept}
use Rattle.calls.specs.declared.Reply.{Reply}
use Rattle.calls.specs.Fields.{is_step, fits}
use Rattle.calls.specs.ChannelCalls.{channel_call}
use Rattle.calls.specs.PinCalls.{pins_call}
use Rattle.calls.specs.VirtualCalls.{virtuals_call}
use Rattle.calls.specs.BoardCalls.{board_call}
use Rattle.calls.specs.declared.Event.{Event}
use Rattle.board.specs.Inputs.{channel_in}
use Rattle.board.specs.Step.{stepped}
use Rattle.board.specs.declared.Class.{Class}
use Rattle.board.specs.declared.Class.TheVariants.{Step, OnChannel, OnPin, OnVirtual, OnBoard, Unknown}
use Rattle.board.specs.declared.Board.{Board}
use Rattle.board.specs.declared.Outcome.{Outcome}

-- ---- the classes of kinds

abbrev pub class_of : ℕ → Class
class_of k =
    cond (eqb k 0) Step (cond (ltb k 13) OnChannel (cond (ltb k 18 || eqb k 30) OnPin (cond (ltb k 22) OnVirtual (cond (ltb k 30) OnBoard Unknown))))

-- ---- a board with one of its parts changed

abbrev pub with_channels : List Channel → Board → Board
with_channels cs b = record { channels = cs; pins = b.pins; virtuals = b.virtuals; core = b.core }

abbrev pub with_pins : Pins → Board → Board
with_pins x b = record { channels = b.channels; pins = x; virtuals = b.virtuals; core = b.core }

abbrev pub with_virtuals : Virtuals → Board → Board
with_virtuals x b = record { channels = b.channels; pins = b.pins; virtuals = x; core = b.core }

abbrev pub with_core : Core → Board → Board
with_core k b = record { channels = b.channels; pins = b.pins; virtuals = b.virtuals; core = k }

-- ---- a call on a part of the board, put back in its place

abbrev pub on_channel : ℕ → (Channel → Reply Channel) → Board → Reply Board
on_channel m f b =
    let r : Reply Channel = f (channel_in b.channels m) in
    reply (with_channels (set b.channels m r.state) b) r.answer

abbrev pub on_pins : (Pins → Reply Pins) → Board → Reply Board
on_pins f b =
    let r : Reply Pins = f b.pins in
    reply (with_pins r.state b) r.answer

abbrev pub on_virtuals : (Virtuals → Reply Virtuals) → Board → Reply Board
on_virtuals f b =
    let r : Reply Virtuals = f b.virtuals in
    reply (with_virtuals r.state b) r.answer

abbrev pub on_core : (Core → Reply Core) → Board → Reply Board
on_core f b =
    let r : Reply Core = f b.core in
    reply (with_core r.state b) r.answer

-- ---- an event that is no accepted step

-- a safe write: 15 and 16 on a pin, 19 and 20 on a virtual output
abbrev pub is_safe_write : ℕ → Bool
is_safe_write k = eqb k 15 || eqb k 16 || eqb k 19 || eqb k 20

-- one that SWE, `writes`, does not allow
abbrev pub is_barred : Bool → ℕ → Bool
is_barred writes k = is_safe_write k && not writes

-- 1 where the member is not one of n, 3 where a field does not fit, 12 where SWE bars the call, else 0
unfoldable pub refusal_in : ℕ → Bool → Event → ℕ
refusal_in n writes e = cond (not (ltb e.member n)) 1 (cond (not (fits e)) 3 (cond (is_barred writes e.kind) 12 0))

-- what the checks on kind, member, fields and SWE find: 2, 1, 3, 12, or 0 for nothing; a step is here because its fields did not fit
unfoldable pub refusal_by : Class → Bool → Event → ℕ
refusal_by Step writes e = 3
refusal_by OnChannel writes e = refusal_in 6 writes e
refusal_by OnPin writes e = refusal_in 48 writes e
refusal_by OnVirtual writes e = refusal_in 6 writes e
refusal_by OnBoard writes e = refusal_in 1 writes e
refusal_by Unknown writes e = 2

-- past the checks, on the part of the board that the class names; a step or an unknown kind does not get there
unfoldable pub passed_by : Class → Board → Event → Reply Board
passed_by Step b e = accept b
passed_by OnChannel b e = on_channel e.member (channel_call b.core.clock.timestamp e) b
passed_by OnPin b e = on_pins (pins_call e) b
passed_by OnVirtual b e = on_virtuals (virtuals_call e) b
passed_by OnBoard b e = on_core (board_call e) b
passed_by Unknown b e = accept b

-- r where the checks found nothing, else their result and the board as it was
abbrev pub checked : ℕ → Board → Reply Board → Reply Board
checked n b r = cond (eqb n 0) r (refuse n b)

unfoldable pub called_by : Class → Board → Event → Reply Board
called_by C b e = checked (refusal_by C b.core.safety.writes e) b (passed_by C b e)

abbrev pub called : Board → Event → Reply Board
called b e = called_by (class_of e.kind) b e

-- ---- every event

-- with a step that `step_of` makes of V and W, and calls that `call_of` answers
unfoldable pub respond_with : (ℕ → ℕ → Board → Board) → (Board → Event → Reply Board) → Board → Event → Reply Board
respond_with step_of call_of b e = cond (is_step e) (accept (step_of e.v e.w b)) (call_of b e)

unfoldable pub respond : Board → Event → Reply Board
respond b e = respond_with stepped called b e

-- the same, as the code's struct has it
abbrev pub outcome : Reply Board → Outcome
outcome r = record { board = r.state; answer = r.answer }
