-- docs/TEXT.md, "A text": the events of a whole text, or its first bad line.
-- Assumes nothing.
use Rattle.std.specs.Prelude.{ℕ, ◌+◌, ◌*◌, ◌/◌, ◌%◌, ◌^◌, cond, List, [], ◌++◌, length, nat_lt, Some, None, is_some, Result, Ok, Err, is_ok}
use Rattle.std.specs.Option.{option_map_or}
use Rattle.buffers.specs.Pieces.{put, joined}
use Rattle.records.specs.Records.{record_of}
use Rattle.scan.specs.declared.Between.TheVariants.{Lines}
use Rattle.scan.specs.Parts.{parts, between, over}
use Rattle.textin.specs.declared.Text.{Text}
use Rattle.textin.specs.declared.Line.{Line}
use Rattle.textin.specs.declared.Wanted.{Wanted}
use Rattle.textin.specs.declared.Wanted.TheVariants.{ShortLine, FewEvents}
use Rattle.textin.specs.declared.Refusal.{Refusal}
use Rattle.textin.specs.declared.Refusal.TheVariants.{BadLine, NoRoom}
use Rattle.textin.specs.Readings.{line_of}

-- the lines of a text; behind its last line feed there is one more, without a byte
unfoldable pub lines_of : List ℕ → List (List ℕ)
lines_of text = parts (between Lines) [] text

-- what a line of so many bytes says behind so many events: wanted are a line of at most 65,535 bytes, and a history of at most 2,031,585
-- events
unfoldable pub among : ℕ → Result Line Wanted → Result Line Wanted
among count (Err x) = Err x
among count (Ok m) = cond (nat_lt 2031585 (count + m.times)) (Err FewEvents) (Ok m)

unfoldable pub fitting : ℕ → ℕ → Result Line Wanted → Result Line Wanted
fitting count size l = cond (nat_lt 65535 size) (Err ShortLine) (among count l)

-- the number of lines, modulo 2^64, what is wanted in the last of them, and the number of events; the first bad line is the last that counts
unfoldable pub added : Text → Result Line Wanted → Text
added t (Ok m) = record { lines = (t.lines + 1) % 2 ^ 64; wanted = None; count = t.count + m.times }
added t (Err x) = record { lines = (t.lines + 1) % 2 ^ 64; wanted = Some x; count = t.count }

unfoldable pub add_line : Text → List ℕ → Text
add_line t l = cond (is_some t.wanted) t (added t (fitting t.count (length l) (line_of l)))

abbrev pub no_text : Text
no_text = record { lines = 0; wanted = None; count = 0 }

unfoldable pub checked : List ℕ → Text
checked text = over add_line no_text (lines_of text)

-- the records of a line's events behind those before it
unfoldable pub records_of : Result Line Wanted → List ℕ
records_of (Ok m) = joined m.times (λ j. record_of m.event)
records_of (Err x) = []

unfoldable pub add_records : List ℕ → List ℕ → List ℕ
add_records h l = h ++ records_of (line_of l)

unfoldable pub records_in : List ℕ → List ℕ
records_in text = over add_records [] (lines_of text)

-- the answer: the place of a bad line, else that the output is shorter than the records, else their length
unfoldable pub answered : Text → ℕ → Result ℕ Refusal
answered t size =
    option_map_or (λ x. Err (BadLine t.lines x)) t.wanted (cond (nat_lt (size / 16) t.count) (Err NoRoom) (Ok (16 * t.count)))

-- the result that a refusal is told as
abbrev pub code_of : Refusal → ℕ
code_of (BadLine n x) = 11
code_of NoRoom = 10

-- the output, which a refusal leaves alone
unfoldable pub output : List ℕ → List ℕ → List ℕ
output text out = cond (is_ok (answered (checked text) (length out))) (put out 0 (records_in text)) out
