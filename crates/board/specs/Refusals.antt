-- Document 01, "Results above 0", as requests 5 and 6 amend it: the refusals of an event in one list, in their order, each with what it is given for.
-- Every event is answered with the first that applies.
-- Assumes nothing.
use Rattle.std.specs.Prelude.{◌≡◌, Bool, false, cond, not, ◌&&◌, ◌||◌, List, [], ◌∷◌, ℕ, eqb, ltb}
use Rattle.counter.specs.declared.Channel.{Channel}
use Rattle.calls.specs.Fields.{step_fits, fits}
use Rattle.calls.specs.declared.Event.{Event}
use Rattle.board.specs.Inputs.{channel_in}
use Rattle.board.specs.Respond.{class_of, is_barred, respond}
use Rattle.board.specs.Handed.{repaired_board, applied}
use Rattle.board.specs.declared.Class.{Class}
use Rattle.board.specs.declared.Class.TheVariants.{Step, OnChannel, OnPin, OnVirtual, OnBoard, Unknown}
use Rattle.board.specs.declared.Board.{Board}

pub record Refusal : Type 0 where
  pub result : ℕ
  pub applies : Bool

abbrev pub refusal : ℕ → Bool → Refusal
refusal n t = record { result = n; applies = t }

-- the member is not there; that of a step is a field
unfoldable pub is_missing : Class → ℕ → Bool
is_missing Step m = false
is_missing OnChannel m = not (ltb m 6)
is_missing OnPin m = not (ltb m 48)
is_missing OnVirtual m = not (ltb m 6)
is_missing OnBoard m = not (ltb m 1)
is_missing Unknown m = false

unfoldable pub refusals : Board → Event → List Refusal
refusals b e =
    let k : ℕ = e.kind in
    let c : Channel = channel_in b.channels e.member in
    -- an unknown kind
    refusal 2 (ltb 30 k)
    -- no such channel, pin, virtual output or board
    ∷ refusal 1 (is_missing (class_of k) e.member)
    -- a field that does not fit
    ∷ refusal 3 (not (cond (eqb k 0) (step_fits e) (fits e)))
    -- a safe write while SWE is 0 (request 5)
    ∷ refusal 12 (is_barred b.core.safety.writes k)
    -- a mode or route write while the channel runs
    ∷ refusal 4 ((eqb k 1 || eqb k 4) && c.running)
    -- an interval write while the watchdog is enabled
    ∷ refusal 7 (eqb k 25 && b.core.watchdog.enabled)
    -- a snapshot read after captures were lost
    ∷ refusal 6 (eqb k 11 && ltb 0 c.lost)
    -- a snapshot read of an empty queue
    ∷ refusal 5 (eqb k 11 && eqb c.held 0)
    ∷ []

-- the first that applies, 0 for none
unfoldable pub first : List Refusal → ℕ
first [] = 0
first (r ∷ rs) = cond r.applies r.result (first rs)

-- an event on a board, and on a board handed in
pub record InOrder (b : Board) (e : Event) : Type 0 where
  pub board : (respond b e).answer.result ≡ first (refusals b e)
  pub handed : (applied b e).answer.result ≡ first (refusals (repaired_board b) e)
