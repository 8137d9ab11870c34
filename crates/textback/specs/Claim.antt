-- docs/TEXT.md, "There and back": the text of a history is read as that history, and a text printed in parts is the text of the whole.
-- Assumes nothing.
use Rattle.std.specs.Prelude.{◌≡◌, Bool, true, false, List, ◌++◌, ℕ, ◌+◌, ◌*◌, ◌/◌, ◌%◌, ◌≤◌, ◌<◌, length, take, get_or, Ok}
use Rattle.history.specs.Claim.{WholeRecords}
use Rattle.history.specs.Refusals.{result_of}
use Rattle.textin.specs.Texts.{checked, records_in, answered, output as records_out}
use Rattle.textout.specs.declared.Run.{Run}
use Rattle.textout.specs.Prints.{no_run, run_after, text_of, printed_text, printed, written_in, output as text_out}

-- a list of bytes
abbrev pub Bytes : List ℕ → Type 0
Bytes h = (j : ℕ) → get_or h j 0 < 256

-- ---- of the definitions: every history, and every output that is long enough

abbrev pub ReadsBack : Type 0
ReadsBack =
    (h : List ℕ) (size : ℕ) → WholeRecords (length h) → Bytes h → length h ≤ size
    → (answered (checked (text_of h (length h / 16))) size ≡ Ok (length h))
    × (records_in (text_of h (length h / 16)) ≡ h)

-- ---- of the promises: what `print` writes is given to `parse`, which accepts it and writes the history

abbrev pub ThereAndBack : Type 0
ThereAndBack =
    (h out out₂ : List ℕ) → WholeRecords (length h) → Bytes h → 320 * (length h / 16 + 1) ≤ length out → length h ≤ length out₂
    → (result_of (printed no_run h true (length out)) ≡ 0)
    × (answered (checked (take (written_in (printed no_run h true (length out))) (text_out no_run h true out))) (length out₂)
    ≡ Ok (length h))
    × (take (length h) (records_out (take (written_in (printed no_run h true (length out))) (text_out no_run h true out)) out₂) ≡ h)

-- ---- records that are printed part by part, each with the run that the part before it left, give the text of all of them

abbrev pub InParts : Type 0
InParts =
    (r : Run) (a b : List ℕ) (last : Bool) → length a % 16 ≡ 0
    → (printed_text r (a ++ b) last ≡ printed_text r a false ++ printed_text (run_after r a (length a / 16)) b last)
    × (run_after r (a ++ b) (length (a ++ b) / 16) ≡ run_after (run_after r a (length a / 16)) b (length b / 16))
