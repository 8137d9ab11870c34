-- `control::Watchdog::watch` meets its contract.
-- Assumes nothing.
use Rattle.control.specs.Watchdog.{watched_in, watched}
use Rattle.control.proofs.Watchdog.watch.Goals as goal

pub returns-then-self : goal.returns-then-self
unfolding watched watched_in
returns-then-self c = rw (c.rests_after-self.ensures, c.expired_after-expired.ensures, c.if-self.true)

pub returns-else-self : goal.returns-else-self
unfolding watched watched_in
returns-else-self c = rw c.if-self.false
