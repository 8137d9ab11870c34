-- docs/TEXT.md, "Kinds" and "Inputs": the names of the kinds, the fields that each has, the names of a step's inputs.
-- Assumes nothing.
use Rattle.std.specs.Prelude.{Option, Some, None, cond, ◌&&◌, List, [], ◌∷◌, ℕ, suc, ◌+◌, ◌*◌, ◌/◌, ◌%◌, eqb, ltb, get_or, drop}
use Rattle.scan.specs.Bytes.{ascii, same}
use Rattle.scan.specs.Numbers.{figure, number}
use Rattle.std.specs.Option.{option_map_or, option_and_then}
use Rattle.kinds.specs.declared.Input.{Input}
use Rattle.kinds.specs.declared.Input.TheVariants.{Line, Pin}
use Rattle.kinds.specs.declared.Named.{Named}
use Rattle.kinds.specs.declared.Named.TheVariants.{Kind, Raw}

-- ---- kinds

-- how many there are
abbrev pub kinds : ℕ
kinds = 31

-- the names of kinds 0 to 30
unfoldable pub names : List (List ℕ)
names =
    ascii "step"
    ∷ ascii "mode_write" ∷ ascii "preload_write" ∷ ascii "compare_write" ∷ ascii "route_write" ∷ ascii "mask_write"
    ∷ ascii "start" ∷ ascii "halt" ∷ ascii "snapshot" ∷ ascii "soft_preload"
    ∷ ascii "count_read" ∷ ascii "snapshot_read" ∷ ascii "channel_status"
    ∷ ascii "source_write" ∷ ascii "pin_data_write" ∷ ascii "pin_safe_data_write" ∷ ascii "pin_safe_enable_write" ∷ ascii "pin_level_read"
    ∷ ascii "virtual_data_write" ∷ ascii "virtual_safe_data_write" ∷ ascii "virtual_safe_enable_write" ∷ ascii "virtual_data_read"
    ∷ ascii "control_write" ∷ ascii "swe_write" ∷ ascii "safemode_clear"
    ∷ ascii "watchdog_interval_write" ∷ ascii "watchdog_enable_write" ∷ ascii "watchdog_kick"
    ∷ ascii "timestamp_read" ∷ ascii "board_status"
    ∷ ascii "pin_filter_write"
    ∷ []

unfoldable pub name : ℕ → List ℕ
name k = get_or names k []

-- the word before six fields, which is the name of no kind
unfoldable pub raw_name : List ℕ
raw_name = ascii "raw"

-- the kind whose name is w, where a list has the names from kind k on
unfoldable pub kind_in : List ℕ → List (List ℕ) → ℕ → Option Named
kind_in w [] k = None
kind_in w (n ∷ l) k = cond (same w n) (Some (Kind k)) (kind_in w l (suc k))

-- what the first word of a line names: a kind by its number or its name, or six fields as they are
unfoldable pub kind_of : List ℕ → Option Named
kind_of w =
    option_map_or (λ n. cond (ltb n kinds) (Some (Kind n)) None) (number w)
    (cond (same w raw_name) (Some Raw) (kind_in w names 0))

-- ---- fields

-- the fields that follow the name of a kind, the first in the lowest octal digit: 1 kind, 2 member, 3 selector, 4 spare, 5 V, 6 W; of a step
-- none, since its inputs can be named; a selector that comes last may be left out, and is then 0
unfoldable pub field_table : List ℕ
field_table =
    -- 0 to 5
    0 ∷ 0o52 ∷ 0o532 ∷ 0o532 ∷ 0o52 ∷ 0o52
    -- 6 to 12
    ∷ 0o2 ∷ 0o2 ∷ 0o2 ∷ 0o2 ∷ 0o2 ∷ 0o2 ∷ 0o2
    -- 13 to 17
    ∷ 0o52 ∷ 0o52 ∷ 0o52 ∷ 0o52 ∷ 0o2
    -- 18 to 21
    ∷ 0o52 ∷ 0o52 ∷ 0o52 ∷ 0o2
    -- 22 to 29
    ∷ 0o5 ∷ 0o5 ∷ 0 ∷ 0o35 ∷ 0o5 ∷ 0 ∷ 0 ∷ 0
    -- 30
    ∷ 0o52
    ∷ []

unfoldable pub fields_of : ℕ → ℕ
fields_of k = get_or field_table k 0

-- those that follow `raw`, all six
abbrev pub raw_fields : ℕ
raw_fields = 0o654321

-- ---- inputs

-- a, b and x are A, B and IX of a channel
unfoldable pub letter : ℕ → Option ℕ
letter b = cond (eqb b 97) (Some 0) (cond (eqb b 98) (Some 1) (cond (eqb b 120) (Some 2) None))

-- the input that a letter and a number name: of channel c at bit 3 c, 3 c + 1 or 3 c + 2 of V; p and a pin at that bit of W
unfoldable pub input_at : ℕ → ℕ → Option Input
input_at b n =
    option_map_or (λ k. cond (ltb n 6) (Some (Line (3 * n + k))) None) (letter b)
    (cond (eqb b 112 && ltb n 48) (Some (Pin n)) None)

-- the input that a word names
unfoldable pub input_of : List ℕ → Option Input
input_of w = option_and_then (input_at (get_or w 0 0)) (figure 10 (drop 1 w))

-- the name of the input at bit i of V, and of W
unfoldable pub input_name : ℕ → List ℕ
input_name i = cond (eqb (i % 3) 2) 120 (97 + i % 3) ∷ (48 + i / 3) ∷ []

unfoldable pub pin_name : ℕ → List ℕ
pin_name i = 112 ∷ cond (ltb i 10) ((48 + i) ∷ []) ((48 + i / 10) ∷ (48 + i % 10) ∷ [])
