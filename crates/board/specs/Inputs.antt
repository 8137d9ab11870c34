-- Document 01, "The step", part 5: what a channel takes from the board. Another channel's ExtOut and carry are those of the last step.
-- Assumes nothing.
use Rattle.std.specs.Prelude.{Bool, not, cond, List, ℕ, ◌+◌, ◌-◌, ◌*◌, eqb, ltb, get_or, ℤ, pos}
use Rattle.std.specs.Bool.{beq}
use Rattle.words.specs.Bits.{bit, word}
use Rattle.words.specs.Table.{tab}
use Rattle.counter.specs.Mode.{XS, K, IP}
use Rattle.counter.specs.Samples.{samples}
use Rattle.counter.specs.Advance.{Inputs, inputs, advance}
use Rattle.counter.specs.Repair.{no_channel}
use Rattle.counter.specs.declared.Channel.{Channel}
use Rattle.ports.specs.Virtuals.{routed}
use Rattle.board.specs.declared.Scene.{Scene}

abbrev pub channel_in : List Channel → ℕ → Channel
channel_in cs c = get_or cs c no_channel

-- channel 5 for 0, else the one before
abbrev pub neighbour : ℕ → ℕ
neighbour c = cond (eqb c 0) 5 (c - 1)

-- bit c is ExtOut of channel c
unfoldable pub extouts : List Channel → ℕ
extouts cs = word 6 (λ c. (channel_in cs c).extout)

-- XS: 0 IX, 1 IX inverted, 2 to 7 ExtOut of channel XS − 2, 8 to 15 a tick
unfoldable pub index_of : ℕ → Bool → ℕ → ℕ → Bool
index_of x ix outs ticks =
    cond (ltb x 2) (not (beq ix (eqb x 1))) (cond (ltb x 8) (bit outs (x - 2)) (bit ticks (x - 8)))

-- K 4 takes the neighbour's carry; with another K there is none to take
abbrev pub carried_by : ℕ → ℤ → ℤ
carried_by m d = cond (eqb (K m) 4) d (pos 0)

-- the samples of channel c in its mode and with its route: V bits 3c, 3c + 1, 3c + 2 are A, B, IX; IP inverts ExtIn
unfoldable pub samples_of : Scene → ℕ → ℕ → ℕ → ℕ
samples_of s c mode route =
    samples (bit s.lines (3 * c)) (bit s.lines (3 * c + 1)) (index_of (XS mode) (bit s.lines (3 * c + 2)) s.outs s.ticks)
    (not (beq (routed s.levels s.virtuals route) (IP mode)))

unfoldable pub inputs_of : Scene → ℕ → ℤ → Channel → Inputs
inputs_of s c carry me = inputs (samples_of s c me.mode me.route) (carried_by me.mode carry) s.rises s.timestamp

-- channel c after the step, from the six channels before it
unfoldable pub channel_next : Scene → List Channel → ℕ → Channel
channel_next s cs c = advance (inputs_of s c (channel_in cs (neighbour c)).carry (channel_in cs c)) (channel_in cs c)

unfoldable pub all_next : Scene → List Channel → List Channel
all_next s cs = tab 6 (channel_next s cs)
