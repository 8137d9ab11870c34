-- The text of a history is read as that history.
-- Assumes nothing.
use mathlib.Core.Path.{◌≡◌, refl, ap, sym, ◌∙◌}
use mathlib.Core.Bool.{true}
use mathlib.Core.List.{List, [], append-nil}
use Prim.Native.Nat.{ℕ, ◌+◌, ◌*◌, ◌/◌, ◌%◌, ◌^◌, ◌≤◌}
use native.Mathlib.Omega.{arith}
use borrow.Author.Tests.{le-ltb}
use lib.ListN.{length, take}
use lib.Seq.{take_all}
use Rattle.buffers.specs.Pieces.{piece, joined}
use Rattle.buffers.proofs.Joined.{joined-piece}
use Rattle.buffers.proofs.Put.{take_put}
use Rattle.history.specs.Claim.{WholeRecords}
use Rattle.scan.specs.Parts.{parts, before, over}
use Rattle.std.specs.Prelude.{None, Result, Ok, is_ok}
use Rattle.history.specs.Refusals.{result_of}
use Rattle.textin.specs.declared.Refusal.{Refusal}
use Rattle.textin.specs.Readings.{take_word, said_at, finished, line_of}
use Rattle.textin.specs.Texts.{lines_of, among, fitting, added, add_line, no_text, checked, records_of, add_records, records_in, answered, output as records_out}
use Rattle.textout.specs.Prints.{no_run, text_of, printed_text, printed, written_in, output as text_out}
use Rattle.textout.proofs.Runs.{printed-all}
use Rattle.textback.specs.Claim.{Bytes, ReadsBack, ThereAndBack}
use Rattle.textback.proofs.Whole.{Reads, all_read}

-- behind the last line feed there is a line without words
last_line : (lines count : ℕ) → count ≤ 2031585 → add_line (record { lines = lines; wanted = None; count = count }) [] ≡ record { lines = (lines + 1) % 2 ^ 64; wanted = None; count = count }
unfolding add_line added fitting among line_of before parts over take_word finished said_at
last_line lines count h = let e : count + 0 ≡ count = omega arith in rw (le-ltb 2031585 (count + 0) (omega arith), e)

no-records : (h : List ℕ) → add_records h [] ≡ h
unfolding add_records records_of line_of before parts over take_word finished said_at joined
no-records h = append-nil h

module _ (text : List ℕ) (count : ℕ) (h : List ℕ) (r : Reads text count h) (few : count ≤ 2031585) where
  whole-checked : checked text ≡ record { lines = (r.lines + 1) % 2 ^ 64; wanted = None; count = count }
  unfolding checked lines_of parts over
  whole-checked =
      ap (λ (x : List ℕ). over add_line no_text (lines_of x)) (sym (append-nil text)) ∙ r.checks [] ∙ last_line r.lines count few

  whole-records : records_in text ≡ h
  unfolding records_in lines_of parts over
  whole-records = ap (λ (x : List ℕ). over add_records [] (lines_of x)) (sym (append-nil text)) ∙ r.gathers [] ∙ no-records h

-- ---- of the definitions

module _ (h : List ℕ) (sizes : WholeRecords (length h)) (bytes : Bytes h) where
  abbrev n : ℕ
  n = length h / 16

  sixteen : 16 * n ≡ length h
  sixteen = let w = sizes.whole in omega (arith, w)

  the-text : Reads (text_of h n) n (joined n (piece 16 h))
  the-text = all_read h bytes n (omega (arith, sixteen)) sizes.limit

  same-records : records_in (text_of h n) ≡ h
  same-records =
      whole-records (text_of h n) n (joined n (piece 16 h)) the-text sizes.limit
      ∙ joined-piece 16 n h
      ∙ take_all (16 * n) h (omega (arith, sixteen))

  accepted : (size : ℕ) → length h ≤ size → answered (checked (text_of h n)) size ≡ Ok (length h)
  unfolding answered
  accepted size m =
      rw (whole-checked (text_of h n) n (joined n (piece 16 h)) the-text sizes.limit, le-ltb (size / 16) n (omega arith), sixteen)

pub reads-back : ReadsBack
reads-back h size sizes bytes m = (accepted h sizes bytes size m, same-records h sizes bytes)

-- ---- of the promises

-- the text of all records is that of `print`
whole-text : (h : List ℕ) → printed_text no_run h true ≡ text_of h (length h / 16)
unfolding printed_text text_of
whole-text h = refl

written-text : (h out : List ℕ) → WholeRecords (length h) → 320 * (length h / 16 + 1) ≤ length out
    → (result_of (printed no_run h true (length out)) ≡ 0) × (take (written_in (printed no_run h true (length out))) (text_out no_run h true out) ≡ text_of h (length h / 16))
written-text h out sizes room =
    let p = printed-all no_run h true out sizes.whole (omega arith) in
    rw (p.0, p.1) (refl, take_put out (printed_text no_run h true) ∙ whole-text h)

-- an accepted text leaves its records at the start of the output
read-records : (text out h : List ℕ) → is_ok (answered (checked text) (length out)) ≡ true → records_in text ≡ h → take (length h) (records_out text out) ≡ h
unfolding records_out
read-records text out h a e = rw (a, e) (take_put out h)

pub there_and_back : ThereAndBack
there_and_back h out out₂ sizes bytes room room₂ =
    let t = written-text h out sizes room in
    let b = reads-back h (length out₂) sizes bytes room₂ in
    (t.0, rw t.1 b.0, rw t.1 (read-records (text_of h (length h / 16)) out₂ h (ap (λ (p : Result ℕ Refusal). is_ok p) b.0) b.1))
