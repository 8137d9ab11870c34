-- Request 3, what stays as it was: the answers and the boards that the machine shares with the one before it.
-- Assumes nothing.
use Rattle.std.specs.Prelude.{◌≡◌, Bool, false, cond, ◌&&◌, ◌||◌, List, ℕ, ◌+◌, ◌*◌, ◌/◌, ◌%◌, eqb}
use Rattle.control.specs.Watchdog.{rest_of, has_expired}
use Rattle.control.specs.declared.Watchdog.{Watchdog}
use Rattle.calls.specs.declared.Event.{Event}
use Rattle.calls.specs.declared.Answer.{Answer}
use Rattle.board.specs.Respond.{respond}
use Rattle.board.specs.Handed.{reset_board}
use Rattle.board.specs.Runs.{finish}
use Rattle.board.specs.declared.Board.{Board}
use Rattle.reach.specs.Claim.{Every}
use Rattle.requests.specs.Lists.{answers_as}
use Rattle.requests.specs.Without.{without3}
use Rattle.requests.specs.Stages.{dog}

-- ---- the answers

-- a call 25 with selector 1 or 2
abbrev pub writes_stage : Event → Bool
writes_stage e = eqb e.kind 25 && (eqb e.selector 1 || eqb e.selector 2)

-- a number without its bits 4 and 5
abbrev pub less_stage_bits : ℕ → ℕ
less_stage_bits n = n % 16 + 64 * (n / 64)

-- an answer but for bits 4 and 5 of the value of call 29
abbrev pub shown : Event → Answer → Answer
shown e a =
    cond (eqb e.kind 29) (record { result = a.result; value = less_stage_bits a.value; timestamp = a.timestamp; reason = a.reason }) a

-- ---- the boards

-- stage 0 is the same, and of the earlier watchdog no other has expired
pub record SameStage (d earlier : Watchdog) : Type 0 where
  pub intervals : earlier.intervals ≡ d.intervals
  pub enabled : earlier.enabled ≡ d.enabled
  pub rest : rest_of earlier 0 ≡ rest_of d 0
  pub expired : has_expired earlier 0 ≡ has_expired d 0
  pub others : has_expired earlier 1 ≡ false

-- all but the rests of stages 1 and 2, and whether these have expired
pub record SameBut (b earlier : Board) : Type 0 where
  pub channels : earlier.channels ≡ b.channels
  pub pins : earlier.pins ≡ b.pins
  pub virtuals : earlier.virtuals ≡ b.virtuals
  pub clock : earlier.core.clock ≡ b.core.clock
  pub safety : earlier.core.safety ≡ b.core.safety
  pub watchdog : SameStage (dog b) (dog earlier)

pub record AsItWas (es : List Event) : Type 0 where
  pub answers : answers_as shown respond reset_board es ≡ answers_as (λ e a. a) without3 reset_board es
  pub last : SameBut (finish respond reset_board es) (finish without3 reset_board es)

-- every list of events from reset in which no interval of stage 1 or 2 is written
abbrev pub Before3 : Type 0
Before3 = (es : List Event) → Every (λ e. writes_stage e ≡ false) es → AsItWas es
