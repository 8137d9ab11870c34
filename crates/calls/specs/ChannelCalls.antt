-- Document 01, "One event", calls 1 to 12, each on the channel's own record. The field checks are past.
-- Assumes nothing.
use Rattle.std.specs.Prelude.{false, cond, List, ℕ, eqb, ltb, get_or, set}
use Rattle.words.specs.Bits.{flags}
use Rattle.counter.specs.Setters.{with_mode, with_preloads, with_compares, with_route, with_mask, with_run, with_lost}
use Rattle.counter.specs.Queue.{captured, popped}
use Rattle.counter.specs.Preload.{preloaded, started}
use Rattle.counter.specs.declared.Channel.{Channel}
use Rattle.calls.specs.Reply.{reply, number, refuse, accept, tell}
use Rattle.calls.specs.declared.Reply.{Reply}
use Rattle.calls.specs.declared.Event.{Event}

-- 1 mode write: 4 while running; preload 0 is selected
unfoldable pub mode_write : ℕ → Channel → Reply Channel
mode_write v c = cond c.running (refuse 4 c) (accept (with_mode v c))

-- a pair of registers with v in the one that the selector names
unfoldable pub register_write : ℕ → ℕ → List ℕ → List ℕ
register_write s v l = set l (cond (eqb s 0) 0 1) v

-- 2 preload write
abbrev pub preload_write : ℕ → ℕ → Channel → Reply Channel
preload_write s v c = accept (with_preloads (register_write s v c.preloads) c)

-- 3 compare write
abbrev pub compare_write : ℕ → ℕ → Channel → Reply Channel
compare_write s v c = accept (with_compares (register_write s v c.compares) c)

-- 4 ExtIn route: 4 while running
unfoldable pub route_write : ℕ → Channel → Reply Channel
route_write v c = cond c.running (refuse 4 c) (accept (with_route v c))

-- 5 snapshot mask
abbrev pub mask_write : ℕ → Channel → Reply Channel
mask_write v c = accept (with_mask v c)

-- 6 start
abbrev pub start : Channel → Reply Channel
start c = accept (started c)

-- 7 halt
abbrev pub halt : Channel → Reply Channel
halt c = accept (with_run false c.armed c)

-- 8 soft snapshot: running or not, with reason 128 under every mask
abbrev pub snapshot : ℕ → Channel → Reply Channel
snapshot t c = accept (captured c.count t 128 c).channel

-- 9 soft preload
abbrev pub soft_preload : Channel → Reply Channel
soft_preload c = accept (preloaded c)

-- 10 count read
abbrev pub count_read : Channel → Reply Channel
count_read c = tell c.count c

-- 11 snapshot read: 6 with the lost count where it is not 0, 5 where the queue is empty, else the oldest entry
unfoldable pub snapshot_read : Channel → Reply Channel
snapshot_read c =
    cond (ltb 0 c.lost) (reply (with_lost 0 c) (number 6 c.lost))
    (cond (eqb c.held 0) (refuse 5 c)
    (reply (popped c)
    (record { result = 0; value = get_or c.counts 0 0; timestamp = get_or c.timestamps 0 0; reason = get_or c.reasons 0 0 })))

-- 12 status: bit 0 running, 1 armed, 2 selected preload
abbrev pub channel_status : Channel → Reply Channel
channel_status c = tell (flags c.running c.armed c.second false) c

-- the call of an event, at the board's timestamp
unfoldable pub channel_call : ℕ → Event → Channel → Reply Channel
channel_call t e c =
    let k : ℕ = e.kind in
    cond (eqb k 1) (mode_write e.v c)
    (cond (eqb k 2) (preload_write e.selector e.v c)
    (cond (eqb k 3) (compare_write e.selector e.v c)
    (cond (eqb k 4) (route_write e.v c)
    (cond (eqb k 5) (mask_write e.v c)
    (cond (eqb k 6) (start c)
    (cond (eqb k 7) (halt c)
    (cond (eqb k 8) (snapshot t c)
    (cond (eqb k 9) (soft_preload c)
    (cond (eqb k 10) (count_read c)
    (cond (eqb k 11) (snapshot_read c)
    (channel_status c)))))))))))
