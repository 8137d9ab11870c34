-- Document 01, "The step", part 3, and the kick: the watchdog, with the three stages of request 3.
-- Assumes nothing.
use Rattle.std.specs.Prelude.{ℕ, ◌+◌, ◌-◌, Bool, true, false, cond, ◌&&◌, ◌||◌, List, replicate, ◌==◌, nat_lt, slice_index, slice_set}
use Rattle.words.specs.Table.{tab}
use Rattle.words.specs.Range.{or_reset, all_good, all_or_reset}
use Rattle.control.specs.declared.Watchdog.{Watchdog}

-- ---- a stage

abbrev pub interval_of : Watchdog → ℕ → ℕ
interval_of d k = slice_index d.intervals k

abbrev pub rest_of : Watchdog → ℕ → ℕ
rest_of d k = slice_index d.rests k

-- the record has how many stages have expired: the first ones, since a stage runs only behind one that has expired, and all end together
abbrev pub has_expired : Watchdog → ℕ → Bool
has_expired d k = nat_lt k d.expired

-- ---- a step, of a watchdog of which this many stages run, from how many have expired and from the rests before it

-- stage 0 runs, and another runs if the one before it has expired
abbrev pub begun : ℕ → ℕ → Bool
begun expired k = k == 0 || nat_lt (k - 1) expired

-- a stage that runs lowers a rest above 0 by 1
abbrev pub rest_after : ℕ → ℕ → List ℕ → ℕ → ℕ
rest_after stages expired rests k = cond (nat_lt k stages && begun expired k) (slice_index rests k - 1) (slice_index rests k)

-- reaching 0 expires it; those before the first that has not expired are expired already, and those behind it do not run
unfoldable pub expired_after : ℕ → ℕ → List ℕ → ℕ
expired_after stages expired rests = cond (nat_lt expired stages && slice_index rests expired == 1) (expired + 1) expired

unfoldable pub rests_after : ℕ → ℕ → List ℕ → List ℕ
rests_after stages expired rests = tab 3 (rest_after stages expired rests)

-- a disabled watchdog stays as it is
unfoldable pub watched_in : ℕ → Watchdog → Watchdog
watched_in stages d =
    cond d.enabled
    (record {
      intervals = d.intervals;
      rests = rests_after stages d.expired d.rests;
      expired = expired_after stages d.expired d.rests;
      enabled = d.enabled;
    })
    d

unfoldable pub watched : Watchdog → Watchdog
watched d = watched_in 3 d

-- ---- what the calls make of it

-- all rests to their intervals, and all expiry ended
unfoldable pub kicked : Watchdog → Watchdog
kicked d = record { intervals = d.intervals; rests = d.intervals; expired = 0; enabled = d.enabled }

-- the interval of stage k at n; there is no stage above 2
unfoldable pub with_interval : ℕ → ℕ → Watchdog → Watchdog
with_interval k n d =
    record { intervals = cond (nat_lt k 3) (slice_set d.intervals k n) d.intervals; rests = d.rests; expired = d.expired; enabled = d.enabled }

abbrev pub with_enabled : Bool → Watchdog → Watchdog
with_enabled t d = record { intervals = d.intervals; rests = d.rests; expired = d.expired; enabled = t }

-- enabling a disabled one does as a kick; an enabled one stays as it is; disabling keeps the rests and what has expired
unfoldable pub switched : Bool → Watchdog → Watchdog
switched true d = cond d.enabled d (kicked (with_enabled true d))
switched false d = with_enabled false d

-- ---- reset, the ranges, and a watchdog handed in

abbrev pub reset_interval : ℕ
reset_interval = 50_000_000

abbrev pub reset_watchdog : Watchdog
reset_watchdog = record { intervals = replicate 3 reset_interval; rests = replicate 3 0; expired = 0; enabled = false }

-- an interval is not 0, and no more stages have expired than there are
abbrev pub is_interval : ℕ → Bool
is_interval n = nat_lt 0 n

abbrev pub is_expired : ℕ → Bool
is_expired n = nat_lt n 4

-- three intervals, and every field in its range
unfoldable pub watchdog_in_range : Watchdog → Bool
watchdog_in_range d = all_good is_interval 3 d.intervals && is_expired d.expired

-- each field outside its range as at reset; every rest is in range
unfoldable pub repaired_watchdog : Watchdog → Watchdog
repaired_watchdog d =
    record {
      intervals = all_or_reset is_interval reset_interval 3 d.intervals;
      rests = d.rests;
      expired = or_reset is_expired reset_watchdog.expired d.expired;
      enabled = d.enabled;
    }
