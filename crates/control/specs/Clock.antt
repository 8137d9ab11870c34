-- Document 01, "The step", part 1: prescaler, timestamp and ticks.
-- Assumes nothing.
use Rattle.std.specs.Prelude.{ℕ, ◌+◌, ◌/◌, ◌%◌, ◌^◌, Bool, cond, ◌==◌, nat_lt}
use Rattle.words.specs.Bits.{word}
use Rattle.words.specs.Range.{or_reset}
use Rattle.control.specs.declared.Clock.{Clock}

-- the prescaler of the next step
abbrev pub prescaler_next : ℕ → ℕ
prescaler_next p = (p + 1) % 500_000_000

-- the timestamp rises in a step whose prescaler 50 divides
abbrev pub rises_at : ℕ → Bool
rises_at p = p % 50 == 0

unfoldable pub advanced : Clock → Clock
advanced k =
    let p : ℕ = prescaler_next k.prescaler in
    record { prescaler = p; timestamp = cond (rises_at p) ((k.timestamp + 1) % 2 ^ 32) k.timestamp }

-- tick x (XS − 8) is high when 500,000,000 / 10^x divides the prescaler
abbrev pub tick : ℕ → ℕ → Bool
tick p x = p % (500_000_000 / 10 ^ x) == 0

unfoldable pub ticks : ℕ → ℕ
ticks p = word 8 (tick p)

abbrev pub reset_clock : Clock
reset_clock = record { prescaler = 0; timestamp = 0 }

-- the prescaler's range, and a clock handed in
abbrev pub is_prescaler : ℕ → Bool
is_prescaler p = nat_lt p 500_000_000

unfoldable pub repaired_clock : Clock → Clock
repaired_clock k = record { prescaler = or_reset is_prescaler reset_clock.prescaler k.prescaler; timestamp = k.timestamp }
