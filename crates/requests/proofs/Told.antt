-- Request 5: which events are answered 12, what they leave, and what stays as it was.
-- Assumes nothing.
use mathlib.Core.Path.{◌≡◌, refl, sym, ap, ◌∙◌}
use mathlib.Core.Bool.{Bool, true, false, cond, not, ◌&&◌, and-false, and-eq-true_iff, true≢false, false≢true}
use mathlib.Core.List.{List, [], ◌∷◌, map}
use Prim.Native.Nat.{ℕ}
use native.Mathlib.Omega.{arith}
use lib.Dec.{eqb, ltb}
use borrow.Author.Tests.{ne_eqb, eqb-true, not-true, not-false}
use Rattle.words.proofs.Cases.{either, paired}
use Rattle.control.specs.Safety.{repaired_safety}
use Rattle.control.specs.Whole.{repaired_core}
use Rattle.calls.specs.Reply.{reply, refuse, accept}
use Rattle.calls.specs.declared.Reply.{Reply}
use Rattle.calls.specs.Fields.{is_step, step_fits, fits}
use Rattle.calls.specs.declared.Event.{Event}
use Rattle.calls.specs.declared.Answer.{Answer}
use Rattle.board.specs.Respond.{class_of, is_safe_write, is_barred, refusal_in, refusal_by, passed_by, checked, called_by, called, respond_with, respond}
use Rattle.board.specs.Refusals.{refusal, is_missing, refusals, first}
use Rattle.board.specs.Handed.{repaired_board, applied}
use Rattle.board.specs.Runs.{finish, replies, remainder}
use Rattle.board.specs.declared.Class.{Class}
use Rattle.board.specs.declared.Class.TheVariants.{Step, OnChannel, OnPin, OnVirtual, OnBoard, Unknown}
use Rattle.board.specs.declared.Board.{Board}
use Rattle.board.proofs.Checks.{by-checks, refused-call}
use Rattle.board.proofs.Classes.{code, other-kind, kinds-of}
use Rattle.board.proofs.Kept.{answered, unchanged}
use Rattle.board.proofs.Steps.{of-call}
use Rattle.board.proofs.Order.{passed_later, answered-first, in_order}
use Rattle.requests.specs.Lists.{NoneOf}
use Rattle.requests.specs.Without.{without5}
use Rattle.requests.specs.Told.{is_early, is_well_formed, is_told, Told, silenced, TakenOut, Request5}

-- ---- 12 in the list of refusals

-- no call decides it
not-later : (s t u v : Bool) → first (refusal 4 s ∷ refusal 7 t ∷ refusal 6 u ∷ refusal 5 v ∷ []) ≡ 12 → ⊥
unfolding first
not-later true t u v h = let z : ◌≡◌ {A = ℕ} 4 12 = h in omega arith
not-later false true u v h = let z : ◌≡◌ {A = ℕ} 7 12 = h in omega arith
not-later false false true v h = let z : ◌≡◌ {A = ℕ} 6 12 = h in omega arith
not-later false false false true h = let z : ◌≡◌ {A = ℕ} 5 12 = h in omega arith
not-later false false false false h = let z : ◌≡◌ {A = ℕ} 0 12 = h in omega arith

-- it applies, and no refusal before it does
twelve : (p q r s t u v w : Bool)
    → first (refusal 2 p ∷ refusal 1 q ∷ refusal 3 r ∷ refusal 12 s ∷ refusal 4 t ∷ refusal 7 u ∷ refusal 6 v ∷ refusal 5 w ∷ []) ≡ 12
    → (q ≡ false) × (r ≡ false) × (s ≡ true)
unfolding first
twelve true q r s t u v w h = let z : ◌≡◌ {A = ℕ} 2 12 = h in absurd (omega arith)
twelve false true r s t u v w h = let z : ◌≡◌ {A = ℕ} 1 12 = h in absurd (omega arith)
twelve false false true s t u v w h = let z : ◌≡◌ {A = ℕ} 3 12 = h in absurd (omega arith)
twelve false false false true t u v w h = (refl, refl, refl)
twelve false false false false t u v w h = absurd (not-later t u v w h)

-- with SWE 1 nothing is barred
never-barred : (k : ℕ) → is_barred true k ≡ false
never-barred k = and-false (is_safe_write k)

-- ---- an event

module _ (b : Board) (e : Event) where
  abbrev k : ℕ
  k = e.kind

  abbrev swe : Bool
  swe = b.core.safety.writes

  -- a step is no safe write
  no_step : is_barred swe k ≡ true → k ≡ 0 → ⊥
  no_step h z = true≢false (sym h ∙ rw z refl)

  found_in : (n : ℕ) → is_barred swe k ≡ true → not (ltb e.member n) ≡ false → fits e ≡ true → refusal_in n swe e ≡ 12
  unfolding refusal_in
  found_in n h m f = rw (not-false (ltb e.member n) m, f, h)

  found : (C : Class) → class_of k ≡ C → is_barred swe k ≡ true → is_missing C e.member ≡ false → fits e ≡ true → refusal_by C swe e ≡ 12
  unfolding refusal_by is_missing
  found Step class h m f = absurd (no_step h (kinds-of k Step class))
  found OnChannel class h m f = found_in 6 h m f
  found OnPin class h m f = found_in 48 h m f
  found OnVirtual class h m f = found_in 6 h m f
  found OnBoard class h m f = found_in 1 h m f
  found Unknown class h m f =
      let no : (n : ℕ) → eqb 5 (code (class_of n)) ≡ false → eqb k n ≡ false = λ n d. other-kind k n Unknown class d in
      absurd (false≢true (rw (no 15 refl, no 16 refl, no 19 refl, no 20 refl) at h))

  module _ (h : (is_early b e && is_well_formed e) ≡ true) where
    early : is_barred swe k ≡ true
    early = ((and-eq-true_iff (is_early b e) (is_well_formed e)).0 h).0

    sound : (is_missing (class_of k) e.member ≡ false) × (fits e ≡ true)
    sound =
        let a = (and-eq-true_iff (not (is_missing (class_of k) e.member)) (fits e)).0 ((and-eq-true_iff (is_early b e) (is_well_formed e)).0 h).1 in
        (not-true _ a.0, a.1)

    told-call : called b e ≡ refuse 12 b
    told-call = refused-call b e (class_of k) 12 refl (sym (found (class_of k) refl early sound.0 sound.1)) (λ z. omega arith)

    told : respond b e ≡ refuse 12 b
    told = of-call b e (rw (ne_eqb k 0 (no_step early)) refl) ∙ told-call

  only-early : (respond b e).answer.result ≡ 12 → (is_early b e && is_well_formed e) ≡ true
  unfolding refusals
  only-early h =
      let t = twelve _ _ _ _ _ _ _ _ (sym (answered-first b e) ∙ h) in
      let call : eqb k 0 ≡ false = ne_eqb k 0 (no_step t.2) in
      let fit : fits e ≡ true = rw call at (not-false (cond (eqb k 0) (step_fits e) (fits e)) t.1) in
      rw (t.2, t.0, fit)

  -- ---- beside the machine before

  -- a reply that is no 12 is what it was
  stays : (r : Reply Board) → (r.answer.result ≡ 12 → ⊥) → silenced r ≡ r
  stays r h = rw (ne_eqb r.answer.result 12 h)

  checked-before : (n : ℕ) (r : Reply Board) → (r.answer.result ≡ 12 → ⊥)
      → checked (refusal_in n true e) b (cond (is_barred swe k) (accept b) r) ≡ silenced (checked (refusal_in n swe e) b r)
  unfolding refusal_in
  checked-before n r h =
      by-checks n swe e (λ m. checked (refusal_in n true e) b (cond (is_barred swe k) (accept b) r) ≡ silenced (checked m b r))
      (λ t. rw t refl)
      (λ t f. rw (t, f) refl)
      (λ t f z. rw (t, f, z, never-barred k) refl)
      (λ t f z. rw (t, f, z, never-barred k) (sym (stays r h)))

  not-passed : (C : Class) → class_of k ≡ C → (passed_by C b e).answer.result ≡ 12 → ⊥
  unfolding refusals
  not-passed C class h = not-later _ _ _ _ (sym (passed_later b e C class) ∙ h)

  before-class : (C : Class) → class_of k ≡ C
      → checked (refusal_by C true e) b (cond (is_barred swe k) (accept b) (passed_by C b e)) ≡ silenced (called_by C b e)
  unfolding called_by refusal_by
  before-class Step class = refl
  before-class OnChannel class = checked-before 6 _ (not-passed OnChannel class)
  before-class OnPin class = checked-before 48 _ (not-passed OnPin class)
  before-class OnVirtual class = checked-before 6 _ (not-passed OnVirtual class)
  before-class OnBoard class = checked-before 1 _ (not-passed OnBoard class)
  before-class Unknown class = refl

  before : without5 b e ≡ silenced (respond b e)
  unfolding without5 respond respond_with
  before = paired (λ r q. r ≡ silenced q) (is_step e) (λ _. refl) (λ _. before-class (class_of k) refl)

  before_same : is_early b e ≡ false → without5 b e ≡ respond b e
  before_same h = before ∙ stays (respond b e) (λ t. true≢false (sym (early (only-early t)) ∙ h))

  -- ---- a board handed in

  -- the repair leaves SWE
  early-handed : is_early (repaired_board b) e ≡ is_early b e
  unfolding repaired_board repaired_core repaired_safety
  early-handed = refl

module _ (b : Board) (e : Event) where
  abbrev such : Bool
  such = is_early b e && is_well_formed e

  abbrev handed : Reply Board
  handed = respond (repaired_board b) e

  told-handed : such ≡ true → handed ≡ refuse 12 (repaired_board b)
  told-handed h = told (repaired_board b) e (ap (λ t. t && is_well_formed e) (early-handed b e) ∙ h)

  only-handed : handed.answer.result ≡ 12 → such ≡ true
  only-handed h = sym (ap (λ t. t && is_well_formed e) (early-handed b e)) ∙ only-early (repaired_board b) e h

  on-handed : Told b e
  on-handed = record {
    only = (
      λ h. only-handed (ap (λ (a : Answer). a.result) (sym (answered b e)) ∙ h),
      λ h. ap (λ (a : Answer). a.result) (answered b e) ∙ ap (λ (r : Reply Board). r.answer.result) (told-handed h),
    );
    nothing = λ h.
        let t = ap (λ (a : Answer). a.result) (sym (answered b e)) ∙ h in
        unchanged b e (λ z. omega (arith, t)) (λ z. omega (arith, t)) ∙ ap (λ (r : Reply Board). reply b r.answer) (told-handed (only-handed t));
  }

-- ---- lists

silent : (es : List Event) (b : Board) → replies without5 b es ≡ map silenced (replies respond b es)
unfolding replies
silent [] b = refl
silent (e ∷ es) b =
    let r = respond b e in
    let state : (silenced r).state ≡ r.state = either (λ (x : Reply Board). x.state ≡ r.state) (is_told r.answer) refl refl in
    rw (before b e, state) (ap (λ l. silenced r ∷ l) (silent es r.state))

same : (es : List Event) (b : Board) → NoneOf is_early b es → replies without5 b es ≡ replies respond b es
unfolding replies
same [] b n = refl
same (e ∷ es) b n = rw (before_same b e n.0) (ap (λ l. respond b e ∷ l) (same es (respond b e).state n.1))

module _ (machine : Board → Event → Reply Board) (kept : (b : Board) (e : Event) → (machine b e).answer.result ≡ 12 → (machine b e).state ≡ b) where
  taken_out_lem : (es : List Event) (b : Board) → TakenOut machine b es
  unfolding replies finish remainder
  taken_out_lem [] b = record { replied = refl; last = refl }
  taken_out_lem (e ∷ es) b = go (taken_out_lem es) (is_told (machine b e).answer) refl
    where
      go : ((x : Board) → TakenOut machine x es) → (t : Bool) → is_told (machine b e).answer ≡ t → TakenOut machine b (e ∷ es)
      go more true h =
          let same : (machine b e).state ≡ b = kept b e (eqb-true _ 12 h) in
          record { replied = rw (h, same) (more b).replied; last = rw (h, same) (more b).last }
      go more false h =
          let rest = more (machine b e).state in
          record { replied = rw h (ap (λ l. machine b e ∷ l) rest.replied); last = rw h rest.last }

pub request5 : Request5
request5 = record {
  told = on-handed;
  order = in_order;
  before = λ b es. record { silent = silent es b; same = same es b };
  taken_out = λ b es. taken_out_lem respond (λ x e h. ap (λ (r : Reply Board). r.state) (told x e (only-early x e h))) es b;
  handed = λ b es. taken_out_lem applied (λ x e h. ap (λ (r : Reply Board). r.state) ((on-handed x e).nothing h)) es b;
}
