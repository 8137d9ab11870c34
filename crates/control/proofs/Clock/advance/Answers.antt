-- `control::Clock::advance` meets its contract.
-- Assumes nothing.
use Rattle.std.proofs.Common.{sym, ◌∙◌}
use Rattle.control.specs.Clock.{advanced}
use Rattle.control.proofs.Clock.advance.Goals as goal

pub returns-then-rises_at : goal.returns-then-rises_at
unfolding advanced
returns-then-rises_at c = let rises = sym c.rises_at.ensures ∙ c.if-rises_at.true in
    rw (← c.next_prescaler-prescaler.ensures, rises)

pub returns-else-rises_at : goal.returns-else-rises_at
unfolding advanced
returns-else-rises_at c = let rises = sym c.rises_at.ensures ∙ c.if-rises_at.false in
    rw (← c.next_prescaler-prescaler.ensures, rises)
