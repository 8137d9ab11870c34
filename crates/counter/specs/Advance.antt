-- Document 01, "The step", part 5: one channel takes its whole record and hands back the next one. The stages stand in the paper's order, and
-- `advance` is the stages in a row.
-- Assumes nothing.
use Rattle.std.specs.Prelude.{ℕ, ◌+◌, ◌*◌, Bool, false, cond, not, ◌&&◌, ◌||◌, ℤ, pos, ◌==◌, bit_or, slice_index}
use Rattle.std.specs.Bool.{beq}
use Rattle.words.specs.Bits.{bit, flag, flags, word, some}
use Rattle.counter.specs.Mode.{K, TD, TE, TP, OP, OM, UD, IM}
use Rattle.counter.specs.Samples.{index, extin, index_rises, index_falls, extin_rises, extin_falls}
use Rattle.counter.specs.Difference.{is_up, is_down, clocked, errs, reversed, moved, carry_of}
use Rattle.counter.specs.Preload.{selected, allowed, flipped, armed_by_load}
use Rattle.counter.specs.Setters.{with_step}
use Rattle.counter.specs.Queue.{captured}
use Rattle.counter.specs.declared.Channel.{Channel}
use Rattle.counter.specs.declared.Seen.{Seen}
use Rattle.counter.specs.declared.Counted.{Counted}
use Rattle.counter.specs.declared.Loaded.{Loaded}
use Rattle.counter.specs.declared.Next.{Next}
use Rattle.counter.specs.declared.Capture.{Capture}

-- all that a channel takes from elsewhere: its samples (A + 2 B + 4 index + 8 ExtIn), the neighbour's carry, whether the timestamp rises, the timestamp
pub record Inputs : Type 0 where
  pub now : ℕ
  pub carried : ℤ
  pub rises : Bool
  pub timestamp : ℕ

abbrev pub inputs : ℕ → ℤ → Bool → ℕ → Inputs
inputs now carried rises timestamp = record { now = now; carried = carried; rises = rises; timestamp = timestamp }

-- ---- what the channel's lines tell: d, the reasons that do not come from the count, the index, armed by its edge

-- the index's edge arms where TE is 1, or disarms where TD is 1
abbrev pub armed_by_edge : ℕ → Bool → ℕ → ℕ → Bool
armed_by_edge m armed kept now =
    (TE m == 1 && index_rises kept now) || (armed && not (TD m == 1 && index_falls kept now))

-- an unarmed channel, or IM 1 with ExtIn 0, does not count
abbrev pub counts : ℕ → Bool → ℕ → Bool
counts m armed now = armed && not (IM m == 1 && not (extin now))

-- reason bits 3 to 6: index falling, index rising, ExtIn falling, ExtIn rising
unfoldable pub edge_reasons : ℕ → ℕ → ℕ
edge_reasons kept now = 8 * flags (index_falls kept now) (index_rises kept now) (extin_falls kept now) (extin_rises kept now)

-- of a halted channel the lines tell nothing; the quadrature error, reason bit 8, is told armed or not
unfoldable pub look : ℕ → ℤ → Bool → Channel → Seen
look now carried rises c =
    let m : ℕ = c.mode in
    let armed : Bool = armed_by_edge m c.armed c.kept now in
    cond c.running
    (record {
      d = cond (counts m armed now) (reversed (UD m) (clocked (K m) c.kept now rises carried)) (pos 0);
      reasons = bit_or (edge_reasons c.kept now) (256 * flag (errs (K m) c.kept now));
      high = index now;
      armed = armed;
    })
    (record { d = pos 0; reasons = 0; high = false; armed = c.armed })

-- ---- the count with matches, zero and carry

-- d is not 0, and the count after it is n: a match where n is a compare register, zero where it is 0
abbrev pub reaches : ℤ → ℕ → ℕ → Bool
reaches d count n = (is_up d || is_down d) && count == n

-- zero disarms where TD is 2
abbrev pub armed_past_zero : ℕ → Bool → Bool → Bool
armed_past_zero m armed zero = armed && not (zero && TD m == 2)

-- reason bits 0, 1 and 2 are match 0, match 1 and zero
unfoldable pub counted : Seen → Channel → Counted
counted s c =
    let n : ℕ = moved c.count s.d in
    let match0 : Bool = reaches s.d n (slice_index c.compares 0) in
    let match1 : Bool = reaches s.d n (slice_index c.compares 1) in
    let zero : Bool = reaches s.d n 0 in
    record {
      count = n;
      reasons = bit_or (flags match0 match1 zero false) s.reasons;
      carry = carry_of c.count s.d;
      armed = armed_past_zero c.mode s.armed zero;
    }

-- ---- the capture's reasons: those whose mask bit is 1, 0 for no capture

unfoldable pub masked : ℕ → ℕ → ℕ
masked mask reasons = word 9 (λ j. bit mask j && bit reasons j)

-- ---- the preload

-- an event of TP holds: bits 11 to 15 are reasons 0 to 4, and 16 is the index being high
unfoldable pub asked : ℕ → ℕ → Bool → Bool
asked m reasons high = some 5 (λ j. TP m (11 + j) && bit reasons j) || (TP m 16 && high)

-- it is allowed in a step: not IM 2 with ExtIn 0, and NR 0 or the count 0
abbrev pub allowed_now : ℕ → ℕ → ℕ → Bool
allowed_now m count now = (not (IM m == 2) || extin now) && allowed m count

unfoldable pub loaded : ℕ → Bool → Counted → Channel → Loaded
loaded now high k c =
    cond (asked c.mode k.reasons high && allowed_now c.mode k.count now)
    (record { count = selected c; second = flipped c.mode c.second; armed = armed_by_load c.mode k.armed })
    (record { count = k.count; second = c.second; armed = k.armed })

-- ---- ExtOut by OM: 0 low, 1 the pulse, 2 preload 1 selected, 3 count not 0, 4 count 0; OP inverts

abbrev pub shown : ℕ → Bool → Bool → ℕ → Bool
shown om pulse second count =
    cond (om == 1) pulse (cond (om == 2) second (cond (om == 3) (not (count == 0)) (om == 4 && count == 0)))

abbrev pub output : ℕ → Bool → Bool → ℕ → Bool
output m pulse second count = not (beq (shown (OM m) pulse second count) (OP m))

-- ---- the record with the capture

-- what the stages make of the small fields
unfoldable pub next_of : ℕ → Seen → Channel → Next
next_of now s c =
    let k : Counted = counted s c in
    let l : Loaded = loaded now s.high k c in
    record {
      count = l.count;
      seen = k.count;
      caught = masked c.mask k.reasons;
      carry = k.carry;
      armed = l.armed;
      second = l.second;
    }

-- one capture of the count before the preload, for the reasons caught; none without a reason
abbrev pub recorded : ℕ → Next → Channel → Capture
recorded timestamp n c = cond (n.caught == 0) (record { channel = c; stored = false }) (captured n.seen timestamp n.caught c)

-- reason bit 0 or 1, a match
abbrev pub is_match : ℕ → Bool
is_match reasons = bit reasons 0 || bit reasons 1

-- the record with the capture, the small fields, the samples kept, and ExtOut: the pulse is a capture with a match that was stored (request 1)
unfoldable pub settled : ℕ → ℕ → Next → Channel → Channel
settled now timestamp n c =
    let told : Capture = recorded timestamp n c in
    let extout : Bool = output c.mode (told.stored && is_match n.caught) n.second n.count in
    with_step n.count n.carry n.armed n.second extout now told.channel

-- the step from what the lines tell
unfoldable pub step : ℕ → ℕ → Seen → Channel → Channel
step now timestamp s c = settled now timestamp (next_of now s c) c

unfoldable pub advance : Inputs → Channel → Channel
advance i c = step i.now i.timestamp (look i.now i.carried i.rises c) c
