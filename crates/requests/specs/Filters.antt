-- Request 6, noise filters on the pins: what a step makes of each pin and who reads its filtered level, what a write of a filter does, a law of the
-- filter by itself, and what stays as it was.
-- Assumes nothing.
use Rattle.std.specs.Prelude.{◌≡◌, Bool, true, not, ◌&&◌, ◌↔◌, List, [], ◌∷◌, ◌++◌, ℕ, suc, ◌≤◌, ◌<◌, eqb, length, get_or, replicate}
use Rattle.words.specs.Bits.{flag}
use Rattle.filters.specs.Filters.{Filtering, followed, reset_filters}
use Rattle.ports.specs.Pins.{WholePin, whole_at, raw_level}
use Rattle.control.specs.Safety.{guarded}
use Rattle.control.specs.Watchdog.{has_expired}
use Rattle.calls.specs.Reply.{number}
use Rattle.calls.specs.declared.Event.{Event}
use Rattle.board.specs.Inputs.{channel_in}
use Rattle.board.specs.Respond.{respond}
use Rattle.board.specs.Handed.{reset_board, in_range}
use Rattle.board.specs.Runs.{finish}
use Rattle.board.specs.declared.Board.{Board}
use Rattle.requests.specs.Steps.{InStepsOf, InStepsHandedOf}
use Rattle.requests.specs.Lists.{NoneOf, answers_to}
use Rattle.requests.specs.Without.{without6}
use Rattle.requests.specs.Safe.{Takes}
use Rattle.requests.specs.Stages.{dog, accepted}

-- ---- a step

-- pin p's filtered level, its filter and its wait on a board
abbrev pub filtering_on : Board → ℕ → Filtering
filtering_on b p =
    let q : WholePin = whole_at b.pins p in
    record { level = q.pin.level; filter = q.filter; wait = q.wait }

abbrev pub level_on : Board → ℕ → Bool
level_on b p = (filtering_on b p).level

-- the step of an event
pub record Follows (e : Event) (b after : Board) : Type 0 where
  -- each pin goes by its raw level, its filter and its wait
  pub pins : (p : ℕ) → p < 48 → filtering_on after p ≡ followed (raw_level b.pins e.w p) (filtering_on b p)
  -- a channel that is routed to a pin takes its filtered level
  pub routes : (c p : ℕ) → c < 6 → p < 48 → (channel_in b.channels c).route ≡ p → Takes (level_on after p) (channel_in b.channels c) (channel_in after.channels c)
  -- and pin 47 triggers by its filtered level
  pub trigger : after.core.safety ≡ guarded (has_expired (dog after) 0) (level_on after 47) b.core.safety

-- ---- the calls

-- a call 17 that is accepted tells the filtered level of the last step
abbrev pub Reads : Board → Type 0
Reads b = (e : Event) → e.kind ≡ 17 → accepted b e ≡ true → (respond b e).answer ≡ number 0 (flag (level_on b e.member))

-- a call 30 that is accepted writes the filter of its pin, begins the wait afresh and keeps the filtered level; every other pin stays as it is
pub record Written (b : Board) (e : Event) : Type 0 where
  pub here : filtering_on (respond b e).state e.member ≡ record { level = level_on b e.member; filter = e.v; wait = 0 }
  pub elsewhere : (p : ℕ) → p < 48 → (p ≡ e.member → ⊥) → whole_at (respond b e).state.pins p ≡ whole_at b.pins p

abbrev pub Writes : Board → Type 0
Writes b = (e : Event) → e.kind ≡ 30 → accepted b e ≡ true → Written b e

-- ---- the filter by itself

-- a pin after raw levels, the latest of which comes first
unfoldable pub after : List Bool → Filtering → Filtering
after [] q = q
after (raw ∷ earlier) q = followed raw (after earlier q)

-- the latest n of these levels all differ from l
pub record AllDiffer (n : ℕ) (l : Bool) (levels : List Bool) : Type 0 where
  pub there : n ≤ length levels
  pub differ : (i : ℕ) → i < n → get_or levels i l ≡ not l

-- the filtered level changes in a step if and only if the last F + 1 raw levels, that of this step included, differ from it; a wait in which the pin
-- was found stands for as many levels that differed before
abbrev pub LastDiffer : Type 0
LastDiffer =
    (q : Filtering) (raw : Bool) (earlier : List Bool)
    → ((after (raw ∷ earlier) q).level ≡ (after earlier q).level → ⊥)
    ↔ AllDiffer (suc q.filter) (after earlier q).level (raw ∷ (earlier ++ replicate q.wait (not q.level)))

-- so with the levels since the last write of F, which left no wait
abbrev pub SinceWrite : Type 0
SinceWrite =
    (level : Bool) (f : ℕ) (raw : Bool) (earlier : List Bool)
    → let q : Filtering = record { level = level; filter = f; wait = 0 } in
    ((after (raw ∷ earlier) q).level ≡ (after earlier q).level → ⊥) ↔ AllDiffer (suc f) (after earlier q).level (raw ∷ earlier)

-- ---- lists, beside the machine before

-- an accepted call 30 that writes another filter than 0
abbrev pub filters : Board → Event → Bool
filters b e = accepted b e && eqb e.kind 30 && not (eqb e.v 0)

-- where there is none, the answers to all other kinds are as they were, and so is the board
pub record AsItWas (b : Board) (es : List Event) : Type 0 where
  pub answers : answers_to (λ e. not (eqb e.kind 30)) respond b es ≡ answers_to (λ e. not (eqb e.kind 30)) without6 b es
  pub last : finish respond b es ≡ finish without6 b es

-- from a board in range on which every filter and every wait is 0
abbrev pub Unfiltered : Board → Type 0
Unfiltered b = (es : List Event) → NoneOf filters b es → AsItWas b es

-- ---- all of it

-- every board there is, and for the step every board handed in; every pin; every board in range without filters, and so the one at reset
pub record Request6 : Type 0 where
  pub steps : (b : Board) → InStepsOf Follows b
  pub handed : (b : Board) → InStepsHandedOf Follows b
  pub reads : (b : Board) → Reads b
  pub writes : (b : Board) → Writes b
  pub law : LastDiffer
  pub since_write : SinceWrite
  pub before : (b : Board) → in_range b ≡ true → b.pins.filters ≡ reset_filters → Unfiltered b
  pub lists : Unfiltered reset_board
