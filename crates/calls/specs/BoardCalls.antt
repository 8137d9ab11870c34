-- Document 01, "One event", calls 22 to 29, each on the board's own part. The field checks are past.
-- Assumes nothing.
use Rattle.std.specs.Prelude.{false, cond, ℕ, ◌+◌, ◌*◌, eqb}
use Rattle.words.specs.Bits.{flags}
use Rattle.control.specs.Watchdog.{has_expired, kicked, switched, with_interval}
use Rattle.control.specs.Safety.{with_control, with_writes, with_safemode}
use Rattle.control.specs.Whole.{with_watchdog, with_safety}
use Rattle.control.specs.declared.Watchdog.{Watchdog}
use Rattle.control.specs.declared.Core.{Core}
use Rattle.calls.specs.Reply.{refuse, accept, tell}
use Rattle.calls.specs.declared.Reply.{Reply}
use Rattle.calls.specs.declared.Event.{Event}

-- 25 watchdog interval, of the stage that the selector names: 7 while the watchdog is enabled
unfoldable pub interval_write : ℕ → ℕ → Core → Reply Core
interval_write stage v k = cond k.watchdog.enabled (refuse 7 k) (accept (with_watchdog (with_interval stage v k.watchdog) k))

-- 29 status: bit 0 safemode, 1 stage 0 expired, 2 SWE, 3 watchdog enabled, 4 and 5 stages 1 and 2 expired
abbrev pub board_status : Core → Reply Core
board_status k =
    let d : Watchdog = k.watchdog in
    tell (flags k.safety.safemode (has_expired d 0) k.safety.writes d.enabled + 16 * flags (has_expired d 1) (has_expired d 2) false false) k

-- 22 control, 23 SWE, 24 clear safemode, 25 interval, 26 watchdog enable, 27 kick, 28 timestamp, 29 status
unfoldable pub board_call : Event → Core → Reply Core
board_call e k =
    let n : ℕ = e.kind in
    cond (eqb n 22) (accept (with_safety (with_control e.v k.safety) k))
    (cond (eqb n 23) (accept (with_safety (with_writes (eqb e.v 1) k.safety) k))
    (cond (eqb n 24) (accept (with_safety (with_safemode false k.safety) k))
    (cond (eqb n 25) (interval_write e.selector e.v k)
    (cond (eqb n 26) (accept (with_watchdog (switched (eqb e.v 1) k.watchdog) k))
    (cond (eqb n 27) (accept (with_watchdog (kicked k.watchdog) k))
    (cond (eqb n 28) (tell k.clock.timestamp k)
    (board_status k)))))))
