-- `control::rests_after` meets its contract.
-- Assumes nothing.
use Rattle.std.proofs.Common.{◌<◌, arith, lt-ltb}
use Rattle.words.specs.Table.{tab}
use Rattle.control.specs.Watchdog.{rests_after}
use Rattle.control.proofs.rests_after.Goals as goal

pub returns-in-0 : goal.returns-in-0
unfolding rests_after tab
returns-in-0 c = rw (c.saturating_sub-first.ensures, c.in-0.is)

pub returns-in-1 : goal.returns-in-1
unfolding rests_after tab
returns-in-1 c = rw (c.saturating_sub.ensures, c.saturating_sub-first.ensures, c.in-1.is)

pub returns-in_default : goal.returns-in_default
unfolding rests_after tab
returns-in_default c =
    let expired = c.args.expired in
    let begun : 1 < expired = omega arith in
    rw (c.saturating_sub-in_default-2.ensures, c.saturating_sub-in_default.ensures, c.saturating_sub-first.ensures, lt-ltb 0 expired (omega arith), lt-ltb 1 expired begun)
