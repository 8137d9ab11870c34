-- Document 01, "Mode word": the fields of the word, and which words are refused.
-- Assumes nothing.
use Rattle.std.specs.Prelude.{ℕ, ◌/◌, ◌%◌, ◌^◌, Bool, ◌&&◌, nat_lt}
use Rattle.words.specs.Bits.{bit_at}

-- bits 0-3: where the index comes from
abbrev pub XS : ℕ → ℕ
XS m = m % 16

-- bits 4-6: the clock
abbrev pub K : ℕ → ℕ
K m = m / 2 ^ 4 % 8

-- bits 7-8: what disarms
abbrev pub TD : ℕ → ℕ
TD m = m / 2 ^ 7 % 4

-- bits 9-10: what arms
abbrev pub TE : ℕ → ℕ
TE m = m / 2 ^ 9 % 4

-- bits 11-16 and 24: what preloads
abbrev pub TP : ℕ → ℕ → Bool
TP m i = bit_at m i

-- bit 17: ExtOut inverted
abbrev pub OP : ℕ → Bool
OP m = bit_at m 17

-- bits 18-20: what ExtOut shows
abbrev pub OM : ℕ → ℕ
OM m = m / 2 ^ 18 % 8

-- bit 21: each preload selects the other register
abbrev pub BP : ℕ → Bool
BP m = bit_at m 21

-- bit 22: the difference's sign is reversed
abbrev pub UD : ℕ → Bool
UD m = bit_at m 22

-- bit 23: a preload only at count 0
abbrev pub NR : ℕ → Bool
NR m = bit_at m 23

-- bits 25-26: what ExtIn gates
abbrev pub IM : ℕ → ℕ
IM m = m / 2 ^ 25 % 4

-- bit 27: ExtIn inverted
abbrev pub IP : ℕ → Bool
IP m = bit_at m 27

-- the words that a mode write takes: bits 28-31 are 0, TE, TD and IM are not 3, OM is at most 4
abbrev pub good_mode : ℕ → Bool
good_mode m = nat_lt m (2 ^ 28) && nat_lt (TE m) 3 && nat_lt (TD m) 3 && nat_lt (IM m) 3 && nat_lt (OM m) 5
