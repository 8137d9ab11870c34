-- Document 01: the preload, and the start of a channel.
-- Assumes nothing.
use Rattle.std.specs.Prelude.{ℕ, Bool, true, cond, not, ◌||◌, ◌==◌, slice_index}
use Rattle.std.specs.Bool.{beq}
use Rattle.counter.specs.Mode.{TE, TP, BP, NR}
use Rattle.counter.specs.Setters.{with_run, with_load}
use Rattle.counter.specs.declared.Channel.{Channel}

-- the selected preload register
abbrev pub selected : Channel → ℕ
selected c = cond c.second (slice_index c.preloads 1) (slice_index c.preloads 0)

-- NR allows a preload only at count 0
abbrev pub allowed : ℕ → ℕ → Bool
allowed m n = not (NR m) || n == 0

-- with BP a preload selects the other register
abbrev pub flipped : ℕ → Bool → Bool
flipped m s = not (beq s (BP m))

-- and with TE 2 it arms
abbrev pub armed_by_load : ℕ → Bool → Bool
armed_by_load m a = a || TE m == 2

-- a preload outside a step: the soft one and that of a start
unfoldable pub preloaded : Channel → Channel
preloaded c =
    cond (allowed c.mode c.count) (with_load (selected c) (flipped c.mode c.second) (armed_by_load c.mode c.armed) c) c

-- start: of a halted channel, armed if TE is 0 and else disarmed, with a preload where TP 24 is set; a running one stays as it is
unfoldable pub started : Channel → Channel
started c =
    cond c.running c
    (cond (TP c.mode 24) (preloaded (with_run true (TE c.mode == 0) c)) (with_run true (TE c.mode == 0) c))
