-- `counter::Channel::preload` meets its contract.
-- Assumes nothing.
use Rattle.std.proofs.Common.{sym, ◌∙◌}
use Rattle.counter.specs.Preload.{preloaded}
use Rattle.counter.proofs.Channel.preload.Goals as goal

pub returns-then-allowed : goal.returns-then-allowed
unfolding preloaded
returns-then-allowed c = rw (c.armed_by_load.ensures, c.flipped.ensures, c.selected.ensures, sym c.allowed.ensures ∙ c.if-allowed.true)

pub returns-else-allowed : goal.returns-else-allowed
unfolding preloaded
returns-else-allowed c = rw (sym c.allowed.ensures ∙ c.if-allowed.false)
