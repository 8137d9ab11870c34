-- `counter::Channel::load` meets its contract.
-- Assumes nothing.
use Rattle.std.proofs.Common.{sym, ◌∙◌}
use Rattle.counter.specs.Advance.{loaded}
use Rattle.counter.proofs.Channel.load.Goals as goal

pub returns-then-allowed_now : goal.returns-then-allowed_now
unfolding loaded
returns-then-allowed_now c = let asks = sym c.asked.ensures ∙ c.if-asked.true in
    let allows = sym c.allowed_now.ensures ∙ c.if-allowed_now.true in
    rw (c.armed_by_load.ensures, c.flipped.ensures, c.selected.ensures, asks, allows)

pub returns-else-allowed_now : goal.returns-else-allowed_now
unfolding loaded
returns-else-allowed_now c = let asks = sym c.asked.ensures ∙ c.if-asked.true in
    let allows = sym c.allowed_now.ensures ∙ c.if-allowed_now.false in
    rw (asks, allows)

pub returns-else-asked : goal.returns-else-asked
unfolding loaded
returns-else-asked c = rw (sym c.asked.ensures ∙ c.if-asked.false)
