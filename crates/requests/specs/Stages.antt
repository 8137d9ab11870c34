-- Request 3, a watchdog with three stages: what a step makes of each stage, and after how many steps each has expired.
-- Assumes nothing.
use Rattle.std.specs.Prelude.{◌≡◌, Bool, true, cond, not, ◌&&◌, ◌||◌, ◌↔◌, List, [], ◌∷◌, ℕ, zero, suc, ◌+◌, ◌-◌, ◌≤◌, ◌<◌, eqb}
use Rattle.control.specs.Watchdog.{interval_of, rest_of, has_expired}
use Rattle.control.specs.declared.Watchdog.{Watchdog}
use Rattle.calls.specs.declared.Event.{Event}
use Rattle.board.specs.Respond.{respond}
use Rattle.board.specs.Handed.{reset_board, in_range}
use Rattle.board.specs.Runs.{finish}
use Rattle.board.specs.declared.Board.{Board}
use Rattle.requests.specs.Steps.{InSteps, InStepsHanded}
use Rattle.requests.specs.Lists.{NoneOf}

abbrev pub dog : Board → Watchdog
dog b = b.core.watchdog

-- ---- a step

-- a stage runs in a step if the watchdog is enabled and the stage before it, where there is one, had expired before the step began
abbrev pub runs : Watchdog → ℕ → Bool
runs d zero = d.enabled
runs d (suc k) = d.enabled && has_expired d k

-- stage k of the watchdog before and after a step: one that runs lowers a rest above 0, and reaching 0 expires it
pub record Turn (before after : Watchdog) (k : ℕ) : Type 0 where
  pub interval : interval_of after k ≡ interval_of before k
  pub rest : rest_of after k ≡ cond (runs before k) (rest_of before k - 1) (rest_of before k)
  pub expired : has_expired after k ≡ (has_expired before k || (runs before k && eqb (rest_of before k) 1))

abbrev pub OnStages : Board → Board → Type 0
OnStages b after = (k : ℕ) → k < 3 → Turn (dog b) (dog after) k

-- ---- from the beginning of a count

-- the sum of the first n intervals, those of stages 0 to n - 1
unfoldable pub sum_of : Watchdog → ℕ → ℕ
sum_of d zero = 0
sum_of d (suc n) = sum_of d n + interval_of d n

-- the event is answered 0
abbrev pub accepted : Board → Event → Bool
accepted b e = eqb (respond b e).answer.result 0

-- a call 26 that enables a disabled watchdog, or a kick while it is enabled
abbrev pub begins : Board → Event → Bool
begins b e = accepted b e && ((eqb e.kind 26 && eqb e.v 1 && not (dog b).enabled) || (eqb e.kind 27 && (dog b).enabled))

-- a kick, or a call 26 that disables
abbrev pub ends : Board → Event → Bool
ends b e = accepted b e && (eqb e.kind 27 || (eqb e.kind 26 && eqb e.v 0))

-- how many accepted steps a list has, from the board that its first event meets
abbrev pub steps_in : Board → List Event → ℕ
steps_in b [] = 0
steps_in b (e ∷ es) = cond (eqb e.kind 0 && accepted b e) 1 0 + steps_in (respond b e).state es

-- whatever events follow, stage k has expired if and only if there were as many accepted steps as the intervals of stages 0 to k sum to
abbrev pub Sums : Board → Type 0
Sums b =
    (e : Event) → begins b e ≡ true → (es : List Event) → NoneOf ends (respond b e).state es → (k : ℕ) → k < 3
    → (has_expired (dog (finish respond b (e ∷ es))) k ≡ true) ↔ (sum_of (dog b) (suc k) ≤ steps_in (respond b e).state es)

-- every board there is and every board handed in for the step; every board in range, and so the board after every list of events from reset, for
-- the sums
pub record Request3 : Type 0 where
  pub boards : (b : Board) → InSteps OnStages b
  pub handed : (b : Board) → InStepsHanded OnStages b
  pub sums : (b : Board) → in_range b ≡ true → Sums b
  pub lists : (es : List Event) → Sums (finish respond reset_board es)
