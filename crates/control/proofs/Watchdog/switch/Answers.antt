-- `control::Watchdog::switch` meets its contract.
-- Assumes nothing.
use Rattle.control.specs.Watchdog.{switched}
use Rattle.control.proofs.Watchdog.switch.Goals as goal

pub returns-then-self : goal.returns-then-self
unfolding switched
returns-then-self c = rw (c.if-on.true, c.if-self.true)

pub returns-then-on : goal.returns-then-on
unfolding switched
returns-then-on c = rw (c.kick.ensures, c.if-on.true, c.if-self.false)

pub returns : goal.returns
unfolding switched
returns c = rw c.if-on.false
