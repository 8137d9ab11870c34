-- Request 2, over the board that a step finds and the board that it leaves: a channel routed to a virtual output takes the output's level by the
-- safemode in which this very step ends.
-- Assumes nothing.
use Rattle.std.specs.Prelude.{◌≡◌, Bool, true, false, not, ℕ, ◌+◌, ◌<◌, pos}
use Rattle.std.specs.Bool.{beq}
use Rattle.counter.specs.Mode.{TP, IM, IP}
use Rattle.counter.specs.Samples.{extin}
use Rattle.counter.specs.Advance.{Inputs, advance}
use Rattle.counter.specs.declared.Channel.{Channel}
use Rattle.ports.specs.Virtuals.{virtual_at, virtual_level}
use Rattle.ports.specs.declared.Virtual.{Virtual}
use Rattle.board.specs.Inputs.{channel_in}
use Rattle.board.specs.declared.Board.{Board}
use Rattle.requests.specs.Steps.{InSteps, InStepsHanded}

-- the step of a channel takes this level for its ExtIn sample, which IP inverts
pub record Takes (level : Bool) (before after : Channel) : Type 0 where
  pub taken : Inputs
  pub sample : extin taken.now ≡ not (beq level (IP before.mode))
  pub next : after ≡ advance taken before

-- no event that preloads in a step is chosen
abbrev pub Unpreloaded : Channel → Type 0
Unpreloaded c = (j : ℕ) → j < 6 → TP c.mode (11 + j) ≡ false

-- nothing is counted
pub record Still (before after : Channel) : Type 0 where
  pub carry : after.carry ≡ pos 0
  pub count : Unpreloaded before → after.count ≡ before.count

-- a channel, routed to the virtual output q, in a step that ends in safemode or not
pub record Routed (safemode : Bool) (q : Virtual) (before after : Channel) : Type 0 where
  pub level : Takes (virtual_level safemode q) before after
  -- in safemode that is the safe data of an output whose safe enable is 1
  pub safe : safemode ≡ true → q.safeenable ≡ true → Takes q.safedata before after
  -- and a channel that safe data gates counts nothing
  pub gated : safemode ≡ true → q.safeenable ≡ true → IM before.mode ≡ 1 → q.safedata ≡ IP before.mode → Still before after

-- each channel and the virtual output of its route, 48 + o
abbrev pub OnRoutes : Board → Board → Type 0
OnRoutes b after =
    (c o : ℕ) → c < 6 → o < 6 → (channel_in b.channels c).route ≡ 48 + o
    → Routed after.core.safety.safemode (virtual_at b.virtuals o) (channel_in b.channels c) (channel_in after.channels c)

-- every board there is, and every board handed in
pub record Request2 : Type 0 where
  pub boards : (b : Board) → InSteps OnRoutes b
  pub handed : (b : Board) → InStepsHanded OnRoutes b
