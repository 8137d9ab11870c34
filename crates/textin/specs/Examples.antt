-- Lines and what they say, worked out by docs/TEXT.md.
-- Assumes nothing.
use Rattle.std.specs.Prelude.{◌≡◌, ℕ, ◌+◌, ◌^◌, List, [], ◌∷◌, map}
use Prim.Native.String.{String}
use Rattle.calls.specs.Events.{call, register, lines}
use Rattle.calls.specs.declared.Event.{Event}
use Rattle.scan.specs.Bytes.{ascii}
use Rattle.std.specs.Prelude.{Result, Ok, Err}
use Rattle.textin.specs.declared.Line.{Line}
use Rattle.textin.specs.declared.Wanted.{Wanted}
use Rattle.textin.specs.Readings.{wanted_number}
use Rattle.textin.specs.Readings.{line_of}

pub record Example : Type 0 where
  pub text : String
  pub says : Result Line ℕ

-- the event n times; nothing; what was wanted
abbrev good : String → ℕ → Event → Example
good text n e = record { text = text; says = Ok (record { times = n; event = e }) }

abbrev none : String → Example
none text = good text 0 (call 0 0 0)

abbrev bad : String → ℕ → Example
bad text n = record { text = text; says = Err n }

unfoldable pub table : List Example
table =
    -- words, separators, comments
    none "" ∷ none " \t\r" ∷ none "# step" ∷ none "  #"
    ∷ good "step" 1 (lines 0 0) ∷ good "\tstep  \r" 1 (lines 0 0) ∷ good "step# a0" 1 (lines 0 0)
    -- inputs
    ∷ good "step a0 b0 x1 p47" 1 (lines (1 + 2 + 2 ^ 5) (2 ^ 47)) ∷ good "step p0 p9 p10 x5 a0 a0 * 50" 50 (lines (1 + 2 ^ 17) (1 + 2 ^ 9 + 2 ^ 10))
    ∷ good "step 0x40000 1 * 3" 3 (lines (2 ^ 18) 1)
    ∷ bad "step a6" 9 ∷ bad "step p48" 9 ∷ bad "step a" 9 ∷ bad "step a0 c0" 10 ∷ bad "step a0 1" 10 ∷ bad "step a0*2" 9
    ∷ bad "step 1" 7 ∷ bad "step 4294967296 0" 6 ∷ bad "step 0 0 0" 8
    -- kinds, by name and by number
    ∷ good "start 0" 1 (call 6 0 0) ∷ good "6 0" 1 (call 6 0 0) ∷ good "0x6 00" 1 (call 6 0 0) ∷ good "start 255" 1 (call 6 255 0)
    ∷ good "mode_write 0 0x01682030" 1 (call 1 0 23601200) ∷ good "1 5 0xfF" 1 (call 1 5 255) ∷ bad "1 5 0XF" 6
    ∷ good "board_status" 1 (call 29 0 0) ∷ good "control_write 4" 1 (call 22 0 4)
    ∷ bad "Start 0" 1 ∷ bad "star 0" 1 ∷ bad "start0" 1 ∷ bad "31 0" 1 ∷ bad "0x" 1 ∷ bad "18446744073709551616" 1 ∷ bad "* 2" 1
    -- the last kind, and words that are nearly names
    ∷ good "pin_filter_write 5 1000" 1 (call 30 5 1000) ∷ good "30 5 0x3e8" 1 (call 30 5 1000)
    ∷ good "pin_filter_write 48 65536 # refused when it is run" 1 (call 30 48 65536)
    ∷ bad "30 0" 6 ∷ bad "pin_filter_write 5" 6 ∷ bad "pin_filter_write" 3 ∷ bad "pin_filter 5 1000" 1 ∷ bad "raw_ 1" 1
    -- fields
    ∷ good "preload_write 0 1 4294967295" 1 (register 2 0 1 4294967295) ∷ good "preload_write 0 2 0xffffffff" 1 (register 2 0 2 4294967295)
    ∷ bad "preload_write 0 1 4294967296" 6 ∷ bad "preload_write 0 1" 6 ∷ bad "preload_write 0" 4 ∷ bad "preload_write" 3 ∷ bad "start 256" 3 ∷ bad "start a" 3
    ∷ bad "start 0 0" 8
    -- a selector that comes last
    ∷ good "watchdog_interval_write 5" 1 (register 25 0 0 5) ∷ good "watchdog_interval_write 5 0" 1 (register 25 0 0 5)
    ∷ good "watchdog_interval_write 5 1" 1 (register 25 0 1 5) ∷ good "watchdog_interval_write 5 * 2" 2 (register 25 0 0 5)
    ∷ good "25 5 2 * 3" 3 (register 25 0 2 5) ∷ good "watchdog_interval_write 5 255 # refused when it is run" 1 (register 25 0 255 5)
    ∷ bad "watchdog_interval_write" 6 ∷ bad "watchdog_interval_write 5 256" 15 ∷ bad "watchdog_interval_write 5 a" 15
    ∷ bad "watchdog_interval_write 5 1 2" 8
    -- six fields
    ∷ good "raw 200 1 2 3 4 18446744073709551615" 1 (record { kind = 200; member = 1; selector = 2; spare = 3; v = 4; w = 18446744073709551615 })
    ∷ good "raw 30 5 0 0 1000 0" 1 (call 30 5 1000)
    ∷ bad "raw" 2 ∷ bad "raw 256" 2 ∷ bad "raw 1 2 3" 5 ∷ bad "raw 1 2 3 4 5" 7 ∷ bad "raw 1 2 3 4 5 18446744073709551616" 7
    -- how many times
    ∷ good "halt 1 * 2" 2 (call 7 1 0) ∷ good "halt 1 * 0xffffffff # all" 4294967295 (call 7 1 0)
    ∷ bad "halt 1 *" 11 ∷ bad "halt 1 * 0" 11 ∷ bad "halt 1 * 4294967296" 11 ∷ bad "halt 1 * 2 3" 12 ∷ bad "halt * 2" 3 ∷ bad "step *2" 9
    ∷ []

-- what a line says, by the number of what is wanted
abbrev numbered : Result Line Wanted → Result Line ℕ
numbered (Ok m) = Ok m
numbered (Err x) = Err (wanted_number x)

-- each line says what the table says
abbrev pub Computed : Type 0
Computed = map (λ (x : Example). numbered (line_of (ascii x.text))) table ≡ map (λ (x : Example). x.says) table
