-- Document 01, "Outsiders": which events are no part of a list's remainder, and how its steps are shown.
-- Assumes nothing.
use Rattle.std.specs.Prelude.{Bool, false, not, cond, ◌&&◌, ◌||◌, ℕ, ◌/◌, eqb}
use Rattle.words.specs.Bits.{bit, word}
use Rattle.calls.specs.declared.Event.{Event}
use Rattle.calls.specs.declared.Answer.{Answer}
use Rattle.board.specs.Respond.{class_of}
use Rattle.board.specs.declared.Class.{Class}
use Rattle.board.specs.declared.Class.TheVariants.{Step, OnChannel, OnPin, OnVirtual, OnBoard, Unknown}
use Rattle.isolation.specs.Members.{Members}

-- a call on an outsider, by the class of its kind; a board call is on no member
unfoldable pub on_outsider : Members → Class → ℕ → Bool
on_outsider M Step i = false
on_outsider M OnChannel i = not (M.is_channel i)
on_outsider M OnPin i = not (M.is_pin i)
on_outsider M OnVirtual i = not (M.is_virtual i)
on_outsider M OnBoard i = false
on_outsider M Unknown i = false

-- answered 1 or 2: no such member, no such kind
abbrev pub is_misaddressed : Answer → Bool
is_misaddressed a = eqb a.result 1 || eqb a.result 2

-- a step that was not accepted
abbrev pub is_refused_step : Event → Answer → Bool
is_refused_step e a = eqb e.kind 0 && not (eqb a.result 0)

-- the event is no part of the remainder
unfoldable pub struck : Members → Event → Answer → Bool
struck M e a = on_outsider M (class_of e.kind) e.member || is_misaddressed a || is_refused_step e a

-- the low n bits of a word, those that are not kept put to 0
abbrev pub keep_bits : ℕ → (ℕ → Bool) → ℕ → ℕ
keep_bits n keep v = word n (λ i. keep i && bit v i)

-- a step with the outsiders' bits put to 0: V bits 3c, 3c + 1 and 3c + 2 are A, B and IX of channel c, W bit p is the external level of pin p
unfoldable pub cleared : Members → Event → Event
cleared M e =
    record {
      kind = e.kind;
      member = e.member;
      selector = e.selector;
      spare = e.spare;
      v = keep_bits 18 (λ i. M.is_channel (i / 3)) e.v;
      w = keep_bits 48 M.is_pin e.w;
    }

-- an event as the remainder has it
unfoldable pub shown : Members → Event → Event
shown M e = cond (eqb e.kind 0) (cleared M e) e
