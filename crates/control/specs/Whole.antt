-- The board's own part: clock, watchdog and safety together.
-- Assumes nothing.
use Rattle.std.specs.Prelude.{Bool, ◌&&◌}
use Rattle.control.specs.Clock.{reset_clock, is_prescaler, repaired_clock}
use Rattle.control.specs.Watchdog.{reset_watchdog, watchdog_in_range, repaired_watchdog}
use Rattle.control.specs.Safety.{reset_safety, is_control, repaired_safety}
use Rattle.control.specs.declared.Watchdog.{Watchdog}
use Rattle.control.specs.declared.Safety.{Safety}
use Rattle.control.specs.declared.Core.{Core}

abbrev pub with_watchdog : Watchdog → Core → Core
with_watchdog d k = record { clock = k.clock; watchdog = d; safety = k.safety }

abbrev pub with_safety : Safety → Core → Core
with_safety s k = record { clock = k.clock; watchdog = k.watchdog; safety = s }

-- every field is in its range
unfoldable pub core_in_range : Core → Bool
core_in_range k = is_prescaler k.clock.prescaler && watchdog_in_range k.watchdog && is_control k.safety.control

-- the part handed in
unfoldable pub repaired_core : Core → Core
repaired_core k =
    record { clock = repaired_clock k.clock; watchdog = repaired_watchdog k.watchdog; safety = repaired_safety k.safety }

-- at reset all is 0, but the intervals 50,000,000
unfoldable pub reset_core : Core
reset_core = record { clock = reset_clock; watchdog = reset_watchdog; safety = reset_safety }
