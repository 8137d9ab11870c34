-- `control::Watchdog::set_interval` meets its contract.
-- Assumes nothing.
use Rattle.std.proofs.Common.{le-ltb, lt-ltb}
use Rattle.control.specs.Watchdog.{with_interval}
use Rattle.control.proofs.Watchdog.set_interval.Goals as goal

pub returns-then-at-lt-STAGES : goal.returns-then-at-lt-STAGES
unfolding with_interval
returns-then-at-lt-STAGES c =
    let h = rw c.from-at.ensures at c.if-at-lt-STAGES.true in
    rw (c.from-at.ensures, lt-ltb _ _ h)

pub returns-else-at-lt-STAGES : goal.returns-else-at-lt-STAGES
unfolding with_interval
returns-else-at-lt-STAGES c =
    let h = rw c.from-at.ensures at c.if-at-lt-STAGES.false in
    rw (le-ltb _ _ h)
