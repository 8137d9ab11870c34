-- The text that is printed for records is read as these records.
-- Assumes nothing.
use mathlib.Core.Path.{◌≡◌, refl, ap, sym, subst, ◌∙◌}
use mathlib.Core.Bool.{Bool, true, false, not, and-eq-true_iff, ◌&&◌}
use mathlib.Core.List.{List, [], ◌∷◌, ◌++◌, append_assoc, append-nil}
use Prim.Native.Nat.{ℕ, zero, suc, ◌+◌, ◌-◌, ◌*◌, ◌%◌, ◌^◌, ◌≤◌, ◌<◌}
use native.Mathlib.Nat.{add-zero}
use native.Mathlib.Omega.{arith}
use borrow.Author.Tests.{le-ltb, eq-eqb, ne_eqb, eqb-true}
use lib.Dec.{eqb, ltb}
use lib.ListN.{length, get_or, length-take, length-drop}
use Rattle.buffers.specs.Pieces.{piece, joined}
use Rattle.buffers.proofs.Joined.{joined-more}
use Rattle.buffers.proofs.Little.{part_bytes, field-small}
use Rattle.calls.specs.declared.Event.{Event}
use Rattle.records.specs.Records.{record_of, event_of, event_at}
use Rattle.records.proofs.Records.{record-event}
use Rattle.std.specs.Prelude.{None}
use Rattle.scan.specs.declared.Between.TheVariants.{Lines}
use Rattle.scan.specs.Parts.{parts, between, over}
use Rattle.scan.proofs.Parts.{parts_cut}
use Rattle.textin.specs.declared.Text.{Text}
use Rattle.textout.specs.declared.Run.{Run}
use Rattle.textin.specs.Readings.{line_of}
use Rattle.textin.specs.Texts.{lines_of, among, fitting, added, add_line, no_text, records_of, add_records}
use Rattle.textback.proofs.Takes.{said}
use Rattle.textout.specs.Prints.{run_text, run_line, same_event, goes_on, next_run, ended_run, no_run, run_after, text_after, text_of}
use Rattle.textin.proofs.Repeats.{repeated}
use Rattle.textout.proofs.Runs.{goes-below}
use Rattle.textback.proofs.Calls.{Ranged}
use Rattle.textback.proofs.Lines.{kept_run, line-run}

-- ---- whole lines

-- a good text so far
abbrev good : ℕ → ℕ → Text
good lines count = record { lines = lines; wanted = None; count = count }

-- whole lines that say so many events, with these records, whatever follows them
pub record Reads (text : List ℕ) (count : ℕ) (h : List ℕ) : Type 0 where
  pub lines : ℕ
  pub checks : (x : List ℕ) → over add_line no_text (lines_of (text ++ x)) ≡ over add_line (good lines count) (lines_of x)
  pub gathers : (x : List ℕ) → over add_records [] (lines_of (text ++ x)) ≡ over add_records h (lines_of x)

reads_as : (text : List ℕ) {m n : ℕ} {k l : List ℕ} → Reads text m k → m ≡ n → k ≡ l → Reads text n l
reads_as text {m} {n} {k} {l} r p q = subst (λ (x : ℕ). Reads text x l) p (subst (λ (x : List ℕ). Reads text m x) q r)

reads_none : Reads [] 0 []
reads_none = record { lines = 0; checks = λ x. refl; gathers = λ x. refl }

-- a line of a run
module _ (r : Run) (e : Ranged r.event) (z : 0 < r.times) (b : r.times < 2 ^ 32) where
  the-line : (x : List ℕ) → lines_of (run_line r ++ x) ≡ run_text r.times r.event ∷ lines_of x
  unfolding lines_of run_line between
  the-line x =
      rw (ne_eqb r.times 0 (λ q. omega (arith, q)))
      (ap (parts (between Lines) []) (append_assoc (run_text r.times r.event) (10 ∷ []) x)
      ∙ (kept_run r.times r.event e).quiet.line [] (10 ∷ x)
      ∙ parts_cut (between Lines) (run_text r.times r.event) 10 x refl)

  the-said : (count : ℕ) → count + r.times ≤ 2031585
      → fitting count (length (run_text r.times r.event)) (line_of (run_text r.times r.event)) ≡ said r.times r.event
  unfolding fitting among
  the-said count h =
      let s = (kept_run r.times r.event e).short in
      rw (le-ltb 65535 (length (run_text r.times r.event)) (omega (arith, s)), line-run r.times r.event e z b, le-ltb 2031585 (count + r.times) h)

  add-line : (lines count : ℕ) → count + r.times ≤ 2031585
      → add_line (good lines count) (run_text r.times r.event) ≡ good ((lines + 1) % 2 ^ 64) (count + r.times)
  unfolding add_line added
  add-line lines count h = rw (the-said count h)

  add-records : (h : List ℕ) → add_records h (run_text r.times r.event) ≡ h ++ repeated r.times r.event
  unfolding add_records records_of
  add-records h = rw (line-run r.times r.event e z b)

  line-more : (text : List ℕ) (count : ℕ) (h : List ℕ) → count + r.times ≤ 2031585 → Reads text count h
      → Reads (text ++ run_line r) (count + r.times) (h ++ repeated r.times r.event)
  unfolding over
  line-more text count h m t = record {
    lines = (t.lines + 1) % 2 ^ 64;
    checks = λ x.
        ap (λ (l : List ℕ). over add_line no_text (lines_of l)) (append_assoc text (run_line r) x)
        ∙ t.checks (run_line r ++ x)
        ∙ ap (over add_line (good t.lines count)) (the-line x)
        ∙ ap (λ (s : Text). over add_line s (lines_of x)) (add-line t.lines count m);
    gathers = λ x.
        ap (λ (l : List ℕ). over add_records [] (lines_of l)) (append_assoc text (run_line r) x)
        ∙ t.gathers (run_line r ++ x)
        ∙ ap (over add_records h) (the-line x)
        ∙ ap (λ (s : List ℕ). over add_records s (lines_of x)) (add-records h);
  }

no_line : (r : Run) → r.times ≡ 0 → run_line r ≡ []
unfolding run_line
no_line r q = rw (eq-eqb r.times 0 q)

-- the line of a run, or nothing where it has no times
run_more : (r : Run) (text : List ℕ) (count : ℕ) (h : List ℕ) → Ranged r.event → r.times < 2 ^ 32 → count + r.times ≤ 2031585 → Reads text count h
    → Reads (text ++ run_line r) (count + r.times) (h ++ repeated r.times r.event)
unfolding joined
run_more r text count h e b m t = by r.times refl
  where
    by : (n : ℕ) → r.times ≡ n → Reads (text ++ run_line r) (count + r.times) (h ++ repeated r.times r.event)
    by zero q = rw (no_line r q, q, append-nil text, add-zero count, append-nil h) t
    by (suc n) q = line-more r e (omega (arith, q)) b text count h m t

-- ---- the events of records

same-event : (a b : Event) → same_event a b ≡ true → a ≡ b
unfolding same_event
same-event a b t =
    let w = (and-eq-true_iff _ (eqb a.w b.w)).0 t in
    let v = (and-eq-true_iff _ (eqb a.v b.v)).0 w.0 in
    let p = (and-eq-true_iff _ (eqb a.spare b.spare)).0 v.0 in
    let s = (and-eq-true_iff _ (eqb a.selector b.selector)).0 p.0 in
    let m = (and-eq-true_iff (eqb a.kind b.kind) (eqb a.member b.member)).0 s.0 in
    λ i. record {
      kind = eqb-true a.kind b.kind m.0 i;
      member = eqb-true a.member b.member m.1 i;
      selector = eqb-true a.selector b.selector s.1 i;
      spare = eqb-true a.spare b.spare p.1 i;
      v = eqb-true a.v b.v v.1 i;
      w = eqb-true a.w b.w w.1 i;
    }

going-same : (r : Run) (e : Event) → goes_on r e ≡ true → r.event ≡ e
unfolding goes_on
going-same r e t =
    let u = (and-eq-true_iff (same_event r.event e && not (eqb r.times 0)) (ltb r.times (2 ^ 32 - 1))).0 t in
    same-event r.event e ((and-eq-true_iff (same_event r.event e) (not (eqb r.times 0))).0 u.0).0

-- what one event more prints and leaves
module _ (h : List ℕ) (n : ℕ) where
  goes-text : goes_on (run_after no_run h n) (event_at h n) ≡ true → text_after no_run h (suc n) ≡ text_after no_run h n
  unfolding text_after ended_run
  goes-text t = rw t (append-nil (text_after no_run h n))

  goes-run : goes_on (run_after no_run h n) (event_at h n) ≡ true → run_after no_run h (suc n) ≡ record { times = (run_after no_run h n).times + 1; event = event_at h n }
  unfolding run_after next_run
  goes-run t = rw t

  ends-text : goes_on (run_after no_run h n) (event_at h n) ≡ false → text_after no_run h (suc n) ≡ text_after no_run h n ++ run_line (run_after no_run h n)
  unfolding text_after ended_run
  ends-text t = rw t

  ends-run : goes_on (run_after no_run h n) (event_at h n) ≡ false → run_after no_run h (suc n) ≡ record { times = 1; event = event_at h n }
  unfolding run_after next_run
  ends-run t = rw t

module _ (h : List ℕ) (bytes : (j : ℕ) → get_or h j 0 < 256) where
  ranged : (j : ℕ) → Ranged (event_at h j)
  unfolding event_at event_of piece
  ranged j =
      let b = part_bytes 16 h (16 * j) bytes in
      record {
        kind = b 0;
        member = b 1;
        selector = b 2;
        spare = b 3;
        v = field-small 4 (piece 16 h j) 4 b;
        w = field-small 8 (piece 16 h j) 8 b;
      }

  record-in : (j : ℕ) → 16 * j + 16 ≤ length h → record_of (event_at h j) ≡ piece 16 h j
  unfolding event_at piece
  record-in j m = record-event (piece 16 h j) (simp (length-take, length-drop) (omega arith)) (part_bytes 16 h (16 * j) bytes)

  -- after n records: the lines that were printed and the run that was not say these records
  record After (n : ℕ) : Type 0 where
    pub count : ℕ
    pub before : List ℕ
    pub reads : Reads (text_after no_run h n) count before
    pub counted : count + (run_after no_run h n).times ≡ n
    pub whole : before ++ repeated (run_after no_run h n).times (run_after no_run h n).event ≡ joined n (piece 16 h)
    pub few : (run_after no_run h n).times < 2 ^ 32
    pub event : Ranged (run_after no_run h n).event

  after_none : After 0
  unfolding text_after run_after joined
  after_none = record {
    count = 0;
    before = [];
    reads = reads_none;
    counted = refl;
    whole = refl;
    few = omega arith;
    event = record { kind = omega arith; member = omega arith; selector = omega arith; spare = omega arith; v = omega arith; w = omega arith };
  }

  -- what the next event leaves
  after-of : (n : ℕ) (text : List ℕ) (r : Run) → text_after no_run h n ≡ text → run_after no_run h n ≡ r → (count : ℕ) (before : List ℕ) → Reads text count before
      → count + r.times ≡ n → before ++ repeated r.times r.event ≡ joined n (piece 16 h) → r.times < 2 ^ 32 → Ranged r.event → After n
  after-of n text r p q count before reads counted whole few event = record {
    count = count;
    before = before;
    reads = rw p reads;
    counted = rw q counted;
    whole = rw q whole;
    few = rw q few;
    event = rw q event;
  }

  module _ (n : ℕ) (m : 16 * n + 16 ≤ length h) (l : n ≤ 2031585) (a : After n) where
    abbrev run : Run
    run = run_after no_run h n

    abbrev e : Event
    e = event_at h n

    -- the event goes on with the run
    goes : goes_on run e ≡ true → After (suc n)
    unfolding joined
    goes t =
        let few = goes-below run e t in
        let c = a.counted in
        after-of (suc n) (text_after no_run h n) (record { times = run.times + 1; event = e }) (goes-text h n t) (goes-run h n t) a.count a.before a.reads
        (omega (arith, c))
        (ap (λ (x : List ℕ). a.before ++ x) (joined-more run.times (λ j. record_of e))
        ∙ sym (append_assoc a.before (repeated run.times e) (record_of e))
        ∙ ap (λ (x : List ℕ). x ++ record_of e) (ap (λ (x : Event). a.before ++ repeated run.times x) (sym (going-same run e t)) ∙ a.whole)
        ∙ ap (λ (x : List ℕ). joined n (piece 16 h) ++ x) (record-in n m))
        (omega (arith, few))
        (ranged n)

    -- or ends it
    ends : goes_on run e ≡ false → After (suc n)
    unfolding joined
    ends t =
        let c = a.counted in
        after-of (suc n) (text_after no_run h n ++ run_line run) (record { times = 1; event = e }) (ends-text h n t) (ends-run h n t) (a.count + run.times)
        (a.before ++ repeated run.times run.event)
        (run_more run (text_after no_run h n) a.count a.before a.event a.few (omega (arith, c)) a.reads)
        (omega (arith, c))
        (ap (λ (x : List ℕ). x ++ record_of e) a.whole ∙ ap (λ (x : List ℕ). joined n (piece 16 h) ++ x) (record-in n m))
        (omega arith)
        (ranged n)

    after_more : After (suc n)
    after_more = by (goes_on run e) refl
      where
        by : (t : Bool) → goes_on run e ≡ t → After (suc n)
        by true q = goes q
        by false q = ends q

  after : (n : ℕ) → 16 * n ≤ length h → n ≤ 2031585 → After n
  after zero m l = after_none
  after (suc n) m l = after_more n (omega arith) (omega arith) (after n (omega arith) (omega arith))

  -- all of the text: the lines of the runs that ended and of the last one
  pub all_read : (n : ℕ) → 16 * n ≤ length h → n ≤ 2031585 → Reads (text_of h n) n (joined n (piece 16 h))
  unfolding text_of
  all_read n m l =
      let a = after n m l in
      let c = a.counted in
      let r = run_more (run_after no_run h n) (text_after no_run h n) a.count a.before a.event a.few (omega (arith, c)) a.reads in
      reads_as (text_of h n) r c a.whole
