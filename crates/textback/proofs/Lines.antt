-- The line that is printed for an event so many times is read as that.
-- Assumes nothing.
use mathlib.Core.Path.{◌≡◌, ap, sym, ◌∙◌}
use mathlib.Core.Bool.{Bool, true, false, cond, and-eq-true_iff}
use mathlib.Core.List.{List, [], ◌++◌, append-nil}
use Prim.Native.Nat.{ℕ, ◌^◌, ◌<◌}
use native.Mathlib.Omega.{arith}
use borrow.Author.Tests.{ltb-true, eqb-true, eqb-false}
use lib.Dec.{eqb, ltb}
use Rattle.words.proofs.Cases.{tested}
use Rattle.calls.specs.Events.{lines}
use Rattle.calls.specs.declared.Event.{Event}
use Rattle.kinds.specs.Names.{kinds}
use Rattle.scan.specs.declared.Between.TheVariants.{Words}
use Rattle.scan.specs.Parts.{parts, between, before, over}
use Rattle.scan.proofs.Parts.{before-end}
use Rattle.textin.specs.Readings.{starting, take_word, finished, line_of}
use Rattle.textout.specs.Prints.{usual, plain, step_text, call_text, raw_text, event_text, times_text, run_text}
use Rattle.textout.proofs.Texts.{plain-named}
use Rattle.textback.proofs.Walk.{Quiet, Kept, kept_append, led, reads}
use Rattle.textback.proofs.Takes.{ended, said, repeated, led-times, kept-times}
use Rattle.textback.proofs.Calls.{Ranged, Usual, left_out, reads-call, kept-call, reads-raw, kept-raw}
use Rattle.textback.proofs.Steps.{any-up, reads-step, kept_step}

-- the text x is that of event e: it is read as e, whatever follows it
record Says (e : Event) (x : List ℕ) : Type 0 where
  pub fields : Bool
  pub some : Bool
  pub go : (l : List ℕ) → led l ≡ true → reads starting (x ++ l) ≡ reads (ended fields some e) l
  pub kept : Kept 289 x

-- ---- a plain event

record Still (e : Event) : Type 0 where
  pub whole : e ≡ lines e.v e.w
  pub v : e.v < 2 ^ 18
  pub w : e.w < 2 ^ 48

still : (e : Event) → eqb e.kind 0 ≡ true → plain e ≡ true → Still e
unfolding plain
still e k p =
    let t = rw k at p in
    let d = (and-eq-true_iff _ (ltb e.w (2 ^ 48))).0 t in
    let c = (and-eq-true_iff _ (ltb e.v (2 ^ 18))).0 d.0 in
    let b = (and-eq-true_iff _ (eqb e.spare 0)).0 c.0 in
    let a = (and-eq-true_iff (eqb e.member 0) (eqb e.selector 0)).0 b.0 in
    record {
      whole = λ i. record {
        kind = eqb-true e.kind 0 k i;
        member = eqb-true e.member 0 a.0 i;
        selector = eqb-true e.selector 0 a.1 i;
        spare = eqb-true e.spare 0 b.1 i;
        v = e.v;
        w = e.w;
      };
      v = ltb-true e.v (2 ^ 18) c.1;
      w = ltb-true e.w (2 ^ 48) d.1;
    }

called : (e : Event) → eqb e.kind 0 ≡ false → plain e ≡ true → Usual e
unfolding plain
called e k p =
    let t = rw k at p in
    let d = (and-eq-true_iff _ (usual e 6)).0 t in
    let c = (and-eq-true_iff _ (usual e 5)).0 d.0 in
    let b = (and-eq-true_iff _ (usual e 4)).0 c.0 in
    let a = (and-eq-true_iff _ (usual e 3)).0 b.0 in
    record { member = ((and-eq-true_iff (ltb e.kind kinds) (usual e 2)).0 a.0).1; selector = a.1; spare = b.1; v = c.1; w = d.1 }

-- ---- any event

kept_more : {l : List ℕ} → Kept 151 l → Kept 289 l
kept_more k = let h = k.short in record { quiet = k.quiet; short = omega (arith, h) }

says-event : (e : Event) → Ranged e → Says e (event_text e)
unfolding event_text
says-event e r = tested (Says e) (plain e) named (λ p. says-raw)
  where
    says-raw : Says e (raw_text e)
    says-raw = record { fields = true; some = false; go = reads-raw e r; kept = kept_more (kept-raw e r) }

    says-step : Still e → Says e (step_text e)
    says-step s = record { fields = false; some = any-up e.v e.w; go = λ l h. reads-step e l s.whole s.v s.w h; kept = kept_step e }

    says-call : 0 < e.kind → e.kind < kinds → Usual e → Says e (call_text e)
    says-call z k u = record { fields = true; some = left_out e.kind e; go = reads-call e r z k u; kept = kept_more (kept-call e r z k) }

    named : plain e ≡ true → Says e (cond (eqb e.kind 0) (step_text e) (call_text e))
    named p =
        tested (Says e) (eqb e.kind 0)
        (λ k. says-step (still e k p))
        (λ k. let n = eqb-false e.kind 0 k in says-call (omega (arith, n)) (plain-named e p n) (called e k p))

pub kept_run : (n : ℕ) (e : Event) → Ranged e → Kept 312 (run_text n e)
unfolding run_text
kept_run n e r = kept_append 289 23 (event_text e) (times_text n) (says-event e r).kept (kept-times n)

-- without a comment all of the line is read
whole-line : (l : List ℕ) → Quiet l → line_of l ≡ finished (reads starting l)
unfolding line_of reads
whole-line l q =
    ap (λ (x : List ℕ). finished (over take_word starting (parts (between Words) [] x)))
    (ap (before 35) (sym (append-nil l)) ∙ q.comment [] ∙ ap (λ (x : List ℕ). l ++ x) (before-end 35) ∙ append-nil l)

pub line-run : (n : ℕ) (e : Event) → Ranged e → 0 < n → n < 2 ^ 32 → line_of (run_text n e) ≡ said n e
unfolding run_text
line-run n e r z h =
    let s = says-event e r in
    whole-line (run_text n e) (kept_run n e r).quiet ∙ ap finished (s.go (times_text n) (led-times n)) ∙ repeated s.fields s.some e n z h
