-- Document 01, "The step", part 4: safemode and what sets it.
-- Assumes nothing.
use Rattle.std.specs.Prelude.{ℕ, ◌%◌, Bool, false, ◌&&◌, ◌||◌, ◌==◌, nat_lt}
use Rattle.std.specs.Bool.{beq}
use Rattle.words.specs.Bits.{bit_at}
use Rattle.words.specs.Range.{or_reset}
use Rattle.control.specs.declared.Safety.{Safety}

-- control bits: 0 pin 47 triggers, 1 its active level, 2 stage 0 of the watchdog triggers
abbrev pub pin_triggers : ℕ → Bool
pin_triggers c = c % 2 == 1

abbrev pub active_level : ℕ → Bool
active_level c = bit_at c 1

abbrev pub watchdog_triggers : ℕ → Bool
watchdog_triggers c = bit_at c 2

abbrev pub with_control : ℕ → Safety → Safety
with_control n s = record { control = n; writes = s.writes; safemode = s.safemode }

abbrev pub with_writes : Bool → Safety → Safety
with_writes t s = record { control = s.control; writes = t; safemode = s.safemode }

abbrev pub with_safemode : Bool → Safety → Safety
with_safemode t s = record { control = s.control; writes = s.writes; safemode = t }

-- safemode is set by an expired stage 0 of the watchdog or by pin 47's level, where control says so; it stays
unfoldable pub guarded : Bool → Bool → Safety → Safety
guarded expired pin47 s =
    with_safemode
    (s.safemode || (watchdog_triggers s.control && expired) || (pin_triggers s.control && beq pin47 (active_level s.control)))
    s

abbrev pub reset_safety : Safety
reset_safety = record { control = 0; writes = false; safemode = false }

-- the range of the control bits, and safety handed in
abbrev pub is_control : ℕ → Bool
is_control n = nat_lt n 8

unfoldable pub repaired_safety : Safety → Safety
repaired_safety s = with_control (or_reset is_control reset_safety.control s.control) s
