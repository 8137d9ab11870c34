-- Request 7: what one event adds to the account of a channel, and the sums over a list of events. Captures made are told by the events, the reasons
-- that occur in a step and the mask; no queue and no lost count is looked at for them.
-- Assumes nothing.
use Rattle.std.specs.Prelude.{Bool, not, cond, ◌&&◌, ◌||◌, List, [], ◌∷◌, ℕ, ◌+◌, ◌-◌, ◌^◌, eqb, ltb}
use Rattle.words.specs.Bits.{bit, flag, some}
use Rattle.counter.specs.Advance.{Inputs, look, counted}
use Rattle.counter.specs.declared.Channel.{Channel}
use Rattle.ports.specs.Pins.{sensed}
use Rattle.ports.specs.declared.Pins.{Pins}
use Rattle.control.specs.Watchdog.{watched}
use Rattle.calls.specs.declared.Reply.{Reply}
use Rattle.calls.specs.declared.Event.{Event}
use Rattle.calls.specs.declared.Answer.{Answer}
use Rattle.board.specs.Inputs.{channel_in, neighbour, inputs_of}
use Rattle.board.specs.Step.{scene_in, core_next}
use Rattle.board.specs.declared.Board.{Board}
use Rattle.board.specs.declared.Scene.{Scene}

-- ---- the captures of a step

-- what every channel can see in a step on b with V and W, when parts 1 to 4 are past
unfoldable pub scene_at : ℕ → ℕ → Board → Scene
scene_at v w b =
    let pins : Pins = sensed w b.pins in
    scene_in v pins (core_next watched (bit pins.level 47) b.core) b

-- what channel c takes from it
unfoldable pub inputs_at : ℕ → ℕ → Board → ℕ → Inputs
inputs_at v w b c = inputs_of (scene_at v w b) c (channel_in b.channels (neighbour c)).carry (channel_in b.channels c)

-- the reasons that occur on a channel
unfoldable pub reasons_in : Inputs → Channel → ℕ
reasons_in i c = (counted (look i.now i.carried i.rises c) c).reasons

-- reason bit 7, which only a soft snapshot gives
abbrev pub soft : ℕ
soft = 7

-- a reason other than soft occurs, with its mask bit 1
unfoldable pub is_caught : ℕ → ℕ → Bool
is_caught mask reasons = some 9 (λ j. not (eqb j soft) && bit mask j && bit reasons j)

-- on a running channel
unfoldable pub captures : Inputs → Channel → Bool
captures i c = c.running && is_caught c.mask (reasons_in i c)

-- ---- what an event adds to the account of channel c: it finds the board b, and a is its answer

-- call k on the channel, answered r
abbrev pub is_call : ℕ → ℕ → ℕ → Event → Answer → Bool
is_call k r c e a = eqb e.member c && (eqb e.kind k && eqb a.result r)

-- an accepted call 8, or an accepted step in which the channel captures
unfoldable pub makes : ℕ → Board → Event → Answer → Bool
makes c b e a =
    is_call 8 0 c e a || (eqb e.kind 0 && eqb a.result 0 && captures (inputs_at e.v e.w b c) (channel_in b.channels c))

-- captures made
unfoldable pub made : ℕ → Board → Event → Answer → ℕ
made c b e a = flag (makes c b e a)

-- entries handed out by call 11
unfoldable pub handed : ℕ → Board → Event → Answer → ℕ
handed c b e a = flag (is_call 11 0 c e a)

-- lost captures reported by result 6
unfoldable pub reported : ℕ → Board → Event → Answer → ℕ
reported c b e a = cond (is_call 11 6 c e a) a.value 0

-- a capture of which no number is left: sixteen are held, and the lost count is at its end
abbrev pub is_full : Channel → Bool
is_full c = not (ltb c.held 16) && not (ltb c.lost (2 ^ 32 - 1))

unfoldable pub unseen : ℕ → Board → Event → Answer → ℕ
unseen c b e a = flag (makes c b e a && is_full (channel_in b.channels c))

-- ---- over a list, from the board that its first event meets

unfoldable pub total : (Board → Event → Reply Board) → (Board → Event → Answer → ℕ) → Board → List Event → ℕ
total machine f b [] = 0
total machine f b (e ∷ es) = f b e (machine b e).answer + total machine f (machine b e).state es
