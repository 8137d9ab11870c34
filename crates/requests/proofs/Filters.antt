-- Request 6: each pin in a step, the calls that read a level and write a filter, and the filter by itself.
-- Assumes nothing.
use mathlib.Core.Path.{◌≡◌, refl, sym, ap, ◌∙◌, subst}
use mathlib.Core.Bool.{Bool, true, false, cond, not, beq, true≢false}
use mathlib.Core.Logic.{◌↔◌}
use mathlib.Core.List.{List, [], ◌∷◌, ◌++◌, append-nil}
use Prim.Native.Nat.{ℕ, zero, suc, ◌+◌, ◌^◌, ◌≤◌, ◌<◌, zero-le, suc-le-suc}
use native.Mathlib.Nat.{le_of_suc-le-suc, not-suc-le-zero}
use native.Mathlib.Numerals.{add-one}
use native.Mathlib.Omega.{arith}
use lib.Dec.{eqb, ltb}
use lib.ListN.{get_or, replicate}
use borrow.Author.Tests.{lt-ltb, ltb-true, ltb-false, eq-eqb}
use Rattle.words.specs.Bits.{bit, flag}
use Rattle.words.proofs.BitLaws.{word-own}
use Rattle.words.proofs.Cases.{either}
use Rattle.filters.specs.Filters.{Filtering, followed}
use Rattle.ports.specs.Pins.{pin_at, whole_at, driven}
use Rattle.ports.specs.Virtuals.{routed}
use Rattle.ports.proofs.Wholes.{filtering_of, stored_whole, whole-there, whole-elsewhere, sensed-at}
use Rattle.calls.specs.Reply.{number, refuse}
use Rattle.calls.specs.declared.Reply.{Reply}
use Rattle.calls.specs.Fields.{is_step, limits, limit, fits}
use Rattle.calls.specs.PinCalls.{pins_call, pin_call, whole_call}
use Rattle.calls.specs.declared.Event.{Event}
use Rattle.board.specs.Inputs.{channel_in}
use Rattle.board.specs.Step.{core_next, step_with, stepped}
use Rattle.board.specs.Respond.{class_of, on_pins, refusal_by, passed_by, called_by, respond}
use Rattle.board.specs.Handed.{repaired_board}
use Rattle.board.specs.declared.Class.TheVariants.{OnPin}
use Rattle.board.specs.declared.Board.{Board}
use Rattle.board.proofs.Steps.{of-call}
use Rattle.reach.proofs.Fitting.{below-limit}
use Rattle.reach.proofs.RangedBoard.{past-checks}
use Rattle.requests.specs.Steps.{InStepsOf, InStepsHandedOf}
use Rattle.requests.specs.Safe.{Takes}
use Rattle.requests.specs.Stages.{accepted}
use Rattle.requests.specs.Filters.{filtering_on, level_on, Follows, Written, after, AllDiffer, LastDiffer, SinceWrite}
use Rattle.requests.proofs.Steps.{in-steps-of, in-steps-handed-of}
use Rattle.requests.proofs.Safe.{takes-routed}

-- ---- a step

routed-pin : (levels virtuals p : ℕ) → p < 48 → routed levels virtuals p ≡ bit levels p
unfolding routed
routed-pin levels virtuals p h = rw (lt-ltb p 48 h)

follows : (b : Board) (e : Event) → Follows e b (stepped e.v e.w b)
unfolding stepped step_with core_next driven whole_at pin_at
follows b e =
    let next : Board = stepped e.v e.w b in
    record {
      pins = λ p h. ap filtering_of (sensed-at b.pins e.w p h);
      routes = λ c p k h r.
          subst (λ t. Takes t (channel_in b.channels c) (channel_in next.channels c)) (ap (routed _ _) r ∙ routed-pin next.pins.level _ p h)
          (takes-routed b e.v e.w c k);
      trigger = refl;
    }

pub steps : (b : Board) → InStepsOf Follows b
steps b = in-steps-of Follows b (follows b)

pub handed : (b : Board) → InStepsHandedOf Follows b
handed b = in-steps-handed-of Follows b (steps (repaired_board b))

-- ---- the calls

module _ (b : Board) (e : Event) where
  -- a call of a pin, past its checks
  pub on-pin : (P : Reply Board → Type 0) → is_step e ≡ false → class_of e.kind ≡ OnPin → ((m : ℕ) → eqb m 0 ≡ false → P (refuse m b))
      → (e.member < 48 → fits e ≡ true → P (on_pins (pins_call e) b)) → P (respond b e)
  unfolding called_by refusal_by passed_by
  on-pin P s class r x = rw (of-call b e s, class) (past-checks P 48 _ e b _ (λ m z _. r m z) x)

  -- one that is accepted
  on-accepted : (P : Reply Board → Type 0) → is_step e ≡ false → class_of e.kind ≡ OnPin → (e.member < 48 → fits e ≡ true → P (on_pins (pins_call e) b))
      → accepted b e ≡ true → P (respond b e)
  on-accepted P s class x =
      on-pin (λ r. eqb r.answer.result 0 ≡ true → P r) s class (λ m z h. absurd (true≢false (sym h ∙ z))) (λ m f _. x m f)

  pub read : e.kind ≡ 17 → accepted b e ≡ true → (respond b e).answer ≡ number 0 (flag (level_on b e.member))
  unfolding whole_call pin_call
  read k =
      on-accepted (λ r. r.answer ≡ number 0 (flag (level_on b e.member))) (rw k refl) (rw k refl) (λ _ _. rw k refl)

  pub written : e.kind ≡ 30 → accepted b e ≡ true → Written b e
  unfolding whole_call whole_at stored_whole limit limits
  written k h = record {
    here =
        on-accepted (λ r. filtering_on r.state e.member ≡ record { level = level_on b e.member; filter = e.v; wait = 0 }) (rw k refl) (rw k refl)
        (λ m f.
        let small : e.v < 2 ^ 16 = ltb-true e.v _ (below-limit e f 30 (eq-eqb e.kind 30 k)) in
        rw (eq-eqb e.kind 30 k)
        (ap filtering_of (whole-there b.pins e.member _ m) ∙ (λ i. record { level = level_on b e.member; filter = word-own 16 e.v small i; wait = word-own 16 0 (omega arith) i })))
        h;
    elsewhere = λ p i d.
        on-accepted (λ r. whole_at r.state.pins p ≡ whole_at b.pins p) (rw k refl) (rw k refl)
        (λ m f. whole-elsewhere b.pins e.member _ p i d) h;
  }

-- ---- the filter by itself

-- how many of the latest levels in a row differ from l
unfoldable differing : Bool → List Bool → ℕ
differing l [] = 0
differing l (r ∷ rs) = cond (beq r l) 0 (suc (differing l rs))

unlike : (r l : Bool) → beq r l ≡ false → r ≡ not l
unlike true true h = absurd (true≢false h)
unlike true false h = refl
unlike false true h = refl
unlike false false h = absurd (true≢false h)

alike : (l : Bool) → beq l l ≡ true
alike true = refl
alike false = refl

opposite : (l : Bool) → beq (not l) l ≡ false
opposite true = refl
opposite false = refl

-- a level more
module _ (l r : Bool) (rs : List Bool) where
  differing-alike : beq r l ≡ true → differing l (r ∷ rs) ≡ 0
  unfolding differing
  differing-alike h = rw h

  differing-unlike : beq r l ≡ false → differing l (r ∷ rs) ≡ suc (differing l rs)
  unfolding differing
  differing-unlike h = rw h

differing-past : (l : Bool) (n : ℕ) → differing l (replicate n (not l)) ≡ n
unfolding differing
differing-past l zero = refl
differing-past l (suc n) = differing-unlike l (not l) (replicate n (not l)) (opposite l) ∙ ap suc (differing-past l n)

-- as many all differ, and no more
module _ (l : Bool) where
  one_more : (n : ℕ) (r : Bool) (rs : List Bool) → r ≡ not l → AllDiffer n l rs → AllDiffer (suc n) l (r ∷ rs)
  one_more n r rs e a = record { there = suc-le-suc a.there; differ = at }
    where
      at : (i : ℕ) → i < suc n → get_or (r ∷ rs) i l ≡ not l
      at zero k = e
      at (suc i) k = a.differ i (le_of_suc-le-suc k)

  counts : (n : ℕ) (rs : List Bool) → n ≤ differing l rs → AllDiffer n l rs
  unfolding differing
  counts zero rs h = record { there = zero-le; differ = λ i k. absurd (not-suc-le-zero k) }
  counts (suc n) [] h = absurd (not-suc-le-zero h)
  counts (suc n) (r ∷ rs) h = go (counts n rs) (beq r l) refl
    where
      go : (n ≤ differing l rs → AllDiffer n l rs) → (t : Bool) → beq r l ≡ t → AllDiffer (suc n) l (r ∷ rs)
      go more true e = absurd (not-suc-le-zero (rw (differing-alike l r rs e) at h))
      go more false e = one_more n r rs (unlike r l e) (more (le_of_suc-le-suc (rw (differing-unlike l r rs e) at h)))

  counted : (n : ℕ) (rs : List Bool) → AllDiffer n l rs → n ≤ differing l rs
  counted zero rs a = zero-le
  counted (suc n) [] a = absurd (not-suc-le-zero a.there)
  counted (suc n) (r ∷ rs) a =
      let first : r ≡ not l = a.differ zero (suc-le-suc zero-le) in
      let rest : AllDiffer n l rs = record { there = le_of_suc-le-suc a.there; differ = λ i k. a.differ (suc i) (suc-le-suc k) } in
      rw (differing-unlike l r rs (ap (λ t. beq t l) first ∙ opposite l)) (suc-le-suc (counted n rs rest))

-- ---- one step of a pin

-- the levels agree; they have differed for long enough; or the pin waits on
module _ (raw : Bool) (q : Filtering) where
  agreeing : beq raw q.level ≡ true → followed raw q ≡ record { level = q.level; filter = q.filter; wait = 0 }
  unfolding followed
  agreeing h = rw h

  module _ (h : beq raw q.level ≡ false) where
    following : ltb q.filter (q.wait + 1) ≡ true → followed raw q ≡ record { level = raw; filter = q.filter; wait = 0 }
    unfolding followed
    following k = rw (h, k)

    waiting : ltb q.filter (q.wait + 1) ≡ false → followed raw q ≡ record { level = q.level; filter = q.filter; wait = q.wait + 1 }
    unfolding followed
    waiting k = rw (h, k)

  -- so the filter stays
  filter-kept : (followed raw q).filter ≡ q.filter
  unfolding followed
  filter-kept =
      let P : Filtering → Type 0 = λ x. x.filter ≡ q.filter in
      either P (beq raw q.level) refl (either P (ltb q.filter (q.wait + 1)) refl refl)

  -- the wait is how many of the latest levels differ, if it was so before
  module _ (levels : List Bool) (w : q.wait ≡ differing q.level levels) where
    wait-next : (followed raw q).wait ≡ differing (followed raw q).level (raw ∷ levels)
    wait-next = go (beq raw q.level) refl (ltb q.filter (q.wait + 1)) refl
      where
        go : (t : Bool) → beq raw q.level ≡ t → (u : Bool) → ltb q.filter (q.wait + 1) ≡ u → (followed raw q).wait ≡ differing (followed raw q).level (raw ∷ levels)
        go true h u k = rw (agreeing h) (sym (differing-alike q.level raw levels h))
        go false h true k = rw (following h k) (sym (differing-alike raw raw levels (alike raw)))
        go false h false k = rw (waiting h k) (add-one q.wait ∙ ap suc w ∙ sym (differing-unlike q.level raw levels h))

    -- and the level changes with the last of F + 1
    changes : ((followed raw q).level ≡ q.level → ⊥) ↔ AllDiffer (suc q.filter) q.level (raw ∷ levels)
    changes = go (beq raw q.level) refl (ltb q.filter (q.wait + 1)) refl
      where
        go : (t : Bool) → beq raw q.level ≡ t → (u : Bool) → ltb q.filter (q.wait + 1) ≡ u
            → ((followed raw q).level ≡ q.level → ⊥) ↔ AllDiffer (suc q.filter) q.level (raw ∷ levels)
        go true h u k = (
          λ f. absurd (f (rw (agreeing h))),
          λ a. absurd (not-suc-le-zero (rw (differing-alike q.level raw levels h) at (counted q.level _ _ a))),
        )
        go false h true k =
            let enough : q.filter ≤ q.wait = omega (arith, ltb-true q.filter (q.wait + 1) k) in (
              λ f. counts q.level _ _ (rw (differing-unlike q.level raw levels h, ← w) (suc-le-suc enough)),
              λ a e.
                  let same : raw ≡ q.level = sym (ap (λ (x : Filtering). x.level) (following h k)) ∙ e in
                  true≢false (sym (alike q.level) ∙ ap (λ t. beq t q.level) (sym same) ∙ h),
            )
        go false h false k =
            let short : suc q.wait ≤ q.filter = omega (arith, ltb-false q.filter (q.wait + 1) k) in (
              λ f. absurd (f (rw (waiting h k))),
              λ a.
                  let most : suc q.filter ≤ suc q.wait = rw (differing-unlike q.level raw levels h, ← w) at (counted q.level _ _ a) in
                  absurd (omega arith),
            )

-- ---- any number of steps

module _ (q : Filtering) where
  filter-after : (earlier : List Bool) → (after earlier q).filter ≡ q.filter
  unfolding after
  filter-after [] = refl
  filter-after (raw ∷ earlier) = filter-kept raw (after earlier q) ∙ filter-after earlier

  -- with the levels for which the wait stands that was found
  abbrev levels : List Bool → List Bool
  levels earlier = earlier ++ replicate q.wait (not q.level)

  wait-after : (earlier : List Bool) → (after earlier q).wait ≡ differing (after earlier q).level (levels earlier)
  unfolding after
  wait-after [] = sym (differing-past q.level q.wait)
  wait-after (raw ∷ earlier) = wait-next raw (after earlier q) (levels earlier) (wait-after earlier)

pub last-differ : LastDiffer
unfolding after
last-differ q raw earlier =
    subst (λ n. ((after (raw ∷ earlier) q).level ≡ (after earlier q).level → ⊥) ↔ AllDiffer (suc n) (after earlier q).level (raw ∷ levels q earlier))
    (filter-after q earlier) (changes raw (after earlier q) (levels q earlier) (wait-after q earlier))

pub since-write : SinceWrite
since-write level f raw earlier = rw append-nil at (last-differ (record { level = level; filter = f; wait = 0 }) raw earlier)
