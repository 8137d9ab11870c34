-- `ports::route_level` meets its contract.
-- Assumes nothing.
use borrow.Author.Tests.{lt-ltb, le-ltb}
use Rattle.ports.specs.Virtuals.{routed}
use Rattle.ports.proofs.route_level.Goals as goal

pub returns-then-r-lt-PINS : goal.returns-then-r-lt-PINS
unfolding routed
returns-then-r-lt-PINS c = simp (c.bit.ensures, lt-ltb _ _ c.if-r-lt-PINS.true)

pub returns-then-r-lt-ROUTED : goal.returns-then-r-lt-ROUTED
unfolding routed
returns-then-r-lt-ROUTED c = simp (c.bit-then-r-lt-ROUTED.ensures, lt-ltb _ _ c.if-r-lt-ROUTED.true, le-ltb _ _ c.if-r-lt-PINS.false)

pub returns-else-r-lt-ROUTED : goal.returns-else-r-lt-ROUTED
unfolding routed
returns-else-r-lt-ROUTED c = simp (le-ltb _ _ c.if-r-lt-ROUTED.false, le-ltb _ _ c.if-r-lt-PINS.false)
