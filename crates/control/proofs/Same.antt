-- The board's own part in range, field by field. The repair leaves such a part alone, and makes one.
-- Assumes nothing.
use Rattle.std.proofs.Common.{◌≡◌, true, refl}
use mathlib.Core.Bool.{and-eq-true_iff}
use Rattle.words.proofs.Every.{reset-good, AllGood, good-each, good-all, good-same, good-reset}
use Rattle.control.specs.Clock.{reset_clock, is_prescaler, repaired_clock}
use Rattle.control.specs.Watchdog.{reset_interval, reset_watchdog, is_interval, is_expired, watchdog_in_range, repaired_watchdog}
use Rattle.control.specs.Safety.{reset_safety, is_control, repaired_safety}
use Rattle.control.specs.Whole.{core_in_range, repaired_core}
use Rattle.control.specs.declared.Watchdog.{Watchdog}
use Rattle.control.specs.declared.Core.{Core}

-- ---- the watchdog

pub record WatchdogInRange (d : Watchdog) : Type 0 where
  pub intervals : AllGood is_interval 3 d.intervals
  pub expired : is_expired d.expired ≡ true

module _ (d : Watchdog) where
  watchdog-fields : watchdog_in_range d ≡ true → WatchdogInRange d
  unfolding watchdog_in_range
  watchdog-fields h =
      let both = (and-eq-true_iff _ _).0 h in
      record { intervals = good-each both.0; expired = both.1 }

  watchdog-whole : WatchdogInRange d → watchdog_in_range d ≡ true
  unfolding watchdog_in_range
  watchdog-whole r = rw (good-all r.intervals, r.expired)

  watchdog-same : WatchdogInRange d → repaired_watchdog d ≡ d
  unfolding repaired_watchdog
  watchdog-same r = rw (good-same reset_interval r.intervals, r.expired)

  watchdog-repaired : WatchdogInRange (repaired_watchdog d)
  unfolding repaired_watchdog
  watchdog-repaired = record {
    intervals = good-reset is_interval reset_interval 3 d.intervals refl;
    expired = reset-good is_expired reset_watchdog.expired refl d.expired;
  }

-- ---- the whole

pub record CoreInRange (k : Core) : Type 0 where
  pub prescaler : is_prescaler k.clock.prescaler ≡ true
  pub watchdog : WatchdogInRange k.watchdog
  pub control : is_control k.safety.control ≡ true

module _ (k : Core) where
  pub core-fields : core_in_range k ≡ true → CoreInRange k
  unfolding core_in_range
  core-fields h =
      let h₂ = (and-eq-true_iff _ _).0 h in
      let h₁ = (and-eq-true_iff _ _).0 h₂.0 in
      record { prescaler = h₁.0; watchdog = watchdog-fields k.watchdog h₁.1; control = h₂.1 }

  pub core-whole : CoreInRange k → core_in_range k ≡ true
  unfolding core_in_range
  core-whole r = rw (r.prescaler, watchdog-whole k.watchdog r.watchdog, r.control)

  pub core-same : core_in_range k ≡ true → repaired_core k ≡ k
  unfolding repaired_core repaired_clock repaired_safety
  core-same h = let r = core-fields h in rw (r.prescaler, watchdog-same k.watchdog r.watchdog, r.control)

pub core-repaired : (k : Core) → core_in_range (repaired_core k) ≡ true
unfolding repaired_core repaired_clock repaired_safety
core-repaired k = core-whole (repaired_core k) (record {
  prescaler = reset-good is_prescaler reset_clock.prescaler refl k.clock.prescaler;
  watchdog = watchdog-repaired k.watchdog;
  control = reset-good is_control reset_safety.control refl k.safety.control;
})
