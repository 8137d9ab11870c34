-- docs/TEXT.md, "A line": what a line says, read word by word.
-- Assumes nothing.
use Rattle.std.specs.Prelude.{ℕ, ◌/◌, ◌%◌, ◌^◌, Bool, true, false, cond, not, ◌&&◌, ◌||◌, List, [], length, ◌==◌, nat_lt, Option, Some, None, Result, Ok, Err}
use Rattle.std.specs.Option.{option_map_or}
use Rattle.words.specs.Bits.{put_bit}
use Rattle.calls.specs.Events.{call}
use Rattle.calls.specs.declared.Event.{Event}
use Rattle.scan.specs.Bytes.{ascii, same}
use Rattle.scan.specs.declared.Between.TheVariants.{Words}
use Rattle.scan.specs.Parts.{parts, between, before, over}
use Rattle.scan.specs.Numbers.{number}
use Rattle.textin.specs.declared.Reading.{Reading}
use Rattle.textin.specs.declared.Line.{Line}
use Rattle.textin.specs.declared.Stage.{Stage}
use Rattle.textin.specs.declared.Stage.TheVariants.{Start, Fields, Step, Inputs, Times, End, Bad}
use Rattle.textin.specs.declared.Wanted.{Wanted}
use Rattle.textin.specs.declared.Wanted.TheVariants as want
use Rattle.kinds.specs.declared.Input.{Input}
use Rattle.kinds.specs.declared.Input.TheVariants.{Line as Level, Pin}
use Rattle.kinds.specs.declared.Named.{Named}
use Rattle.kinds.specs.declared.Named.TheVariants.{Kind, Raw}
use Rattle.kinds.specs.Names.{kind_of, fields_of, raw_fields, input_of}

-- ---- events

-- field f at n, which a field of that size can hold
unfoldable pub with_field : Event → ℕ → ℕ → Event
with_field e f n = record {
  kind = cond (f == 1) (n % 2 ^ 8) e.kind;
  member = cond (f == 2) (n % 2 ^ 8) e.member;
  selector = cond (f == 3) (n % 2 ^ 8) e.selector;
  spare = cond (f == 4) (n % 2 ^ 8) e.spare;
  v = cond (f == 5) (n % 2 ^ 32) e.v;
  w = cond (f == 6) n e.w;
}

-- a field's number is below this
unfoldable pub room : ℕ → ℕ
room f = cond (nat_lt f 5) (2 ^ 8) (cond (f == 5) (2 ^ 32) (2 ^ 64))

-- an input is up: bit i of V, or a pin, bit i of W
unfoldable pub raised : Event → Input → Event
raised e (Level i) = record { kind = e.kind; member = e.member; selector = e.selector; spare = e.spare; v = put_bit 18 i true e.v; w = e.w }
raised e (Pin i) = record { kind = e.kind; member = e.member; selector = e.selector; spare = e.spare; v = e.v; w = put_bit 48 i true e.w }

abbrev pub place_of : Input → ℕ
place_of (Level i) = i
place_of (Pin i) = i

-- ---- where a line stands

abbrev pub at : Stage → ℕ → Event → Reading
at stage times e = record { stage = stage; times = times; event = e }

abbrev pub starting : Reading
starting = at Start 1 (call 0 0 0)

-- the numbers of what is wanted: 1 a kind, 2 to 7 a field, 8 the end or a star behind the fields, 9 the same or an input or V behind `step`, 10 the
-- same or an input behind an input, 11 how many times, 12 the end, 13 a line of at most 65,535 bytes, 14 a history of at most 2,031,585 events; 15 as
-- 8, or a selector that comes last
abbrev pub wanted_number : Wanted → ℕ
wanted_number want.FirstWord = 1
wanted_number want.Kind = 2
wanted_number want.Member = 3
wanted_number want.Selector = 4
wanted_number want.Spare = 5
wanted_number want.V = 6
wanted_number want.W = 7
wanted_number want.Star = 8
wanted_number want.InputOrV = 9
wanted_number want.Input = 10
wanted_number want.Times = 11
wanted_number want.End = 12
wanted_number want.ShortLine = 13
wanted_number want.FewEvents = 14
wanted_number want.LastSelector = 15
wanted_number (want.Other n) = n

-- what is wanted where digit f comes next: that with the number f + 1. No table of fields has the digits 0 and 7
unfoldable pub wanted_field : ℕ → Wanted
wanted_field f =
    cond (f == 0) want.FirstWord (cond (f == 1) want.Kind (cond (f == 2) want.Member (cond (f == 3) want.Selector (cond (f == 4) want.Spare
    (cond (f == 5) want.V (cond (f == 7) want.Star want.W))))))

-- and at each stage
unfoldable pub wanted_by : Stage → Wanted
wanted_by Start = want.FirstWord
wanted_by (Fields left) = cond (left == 0) want.Star (cond (left == 3) want.LastSelector (wanted_field (left % 8)))
wanted_by Step = want.InputOrV
wanted_by Inputs = want.Input
wanted_by Times = want.Times
wanted_by End = want.End
wanted_by (Bad x) = x

unfoldable pub spoilt : Reading → Reading
spoilt s = at (Bad (wanted_by s.stage)) s.times s.event

-- ---- one word

-- by what the first word names: kind 0 is a step; the first field of `raw` is the kind
unfoldable pub begun : Reading → Option Named → Reading
begun s (Some (Kind k)) = cond (k == 0) (at Step 1 (call 0 0 0)) (at (Fields (fields_of k)) 1 (call k 0 0))
begun s (Some Raw) = at (Fields raw_fields) 1 (call 0 0 0)
begun s None = spoilt s

unfoldable pub take_kind : Reading → List ℕ → Reading
take_kind s w = begun s (kind_of w)

-- the first of the fields that are left
unfoldable pub take_field : ℕ → Reading → List ℕ → Reading
take_field left s w =
    option_map_or
    (λ n.
    cond (nat_lt n (room (left % 8))) (at (Fields (left / 8)) s.times (with_field s.event (left % 8) n)) (spoilt (at (Fields left) s.times s.event)))
    (number w)
    (spoilt (at (Fields left) s.times s.event))

unfoldable pub take_star : Reading → List ℕ → Reading
take_star s w = cond (same w (ascii "*")) (at Times s.times s.event) (spoilt s)

-- a selector that comes last may be left out, and is then 0
unfoldable pub take_last : Reading → List ℕ → Reading
take_last s w = option_map_or (λ n. take_field 3 s w) (number w) (take_star s w)

unfoldable pub take_input : Reading → List ℕ → Reading
take_input s w = option_map_or (λ u. at Inputs s.times (raised s.event u)) (input_of w) (take_star s w)

-- behind `step` come inputs, or V and W as numbers
unfoldable pub take_step : Reading → List ℕ → Reading
take_step s w = option_map_or (λ n. take_field 0o65 s w) (number w) (take_input s w)

unfoldable pub take_times : Reading → List ℕ → Reading
take_times s w = option_map_or (λ n. cond (not (n == 0) && nat_lt n (2 ^ 32)) (at End n s.event) (spoilt s)) (number w) (spoilt s)

unfoldable pub take_at : Stage → Reading → List ℕ → Reading
take_at Start s w = take_kind s w
take_at (Fields left) s w = cond (left == 0) (take_star s w) (cond (left == 3) (take_last s w) (take_field left s w))
take_at Step s w = take_step s w
take_at Inputs s w = take_input s w
take_at Times s w = take_times s w
take_at End s w = spoilt s
take_at (Bad x) s w = spoilt s

unfoldable pub take_some : Reading → List ℕ → Reading
take_some s w = take_at s.stage s w

-- between two separators in a row there is no word
unfoldable pub take_word : Reading → List ℕ → Reading
take_word s w = cond (length w == 0) s (take_some s w)

-- ---- the line

-- it may end here, behind an event: also before a selector that comes last
unfoldable pub whole : Stage → Bool
whole Start = false
whole (Fields left) = left == 0 || left == 3
whole Step = true
whole Inputs = true
whole Times = false
whole End = true
whole (Bad x) = false

-- a line without words says nothing, no event and nothing wanted
unfoldable pub said_at : Stage → Reading → Result Line Wanted
said_at Start s = Ok (record { times = 0; event = call 0 0 0 })
said_at (Fields left) s = cond (whole (Fields left)) (Ok (record { times = s.times; event = s.event })) (Err (wanted_by (Fields left)))
said_at Step s = Ok (record { times = s.times; event = s.event })
said_at Inputs s = Ok (record { times = s.times; event = s.event })
said_at Times s = Err (wanted_by Times)
said_at End s = Ok (record { times = s.times; event = s.event })
said_at (Bad x) s = Err x

unfoldable pub finished : Reading → Result Line Wanted
finished s = said_at s.stage s

-- 35 is `#`: a comment runs to the end of the line
unfoldable pub line_of : List ℕ → Result Line Wanted
line_of l = finished (over take_word starting (parts (between Words) [] (before 35 l)))
