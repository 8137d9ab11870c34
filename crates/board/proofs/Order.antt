-- Every event is answered with the first refusal that applies.
-- Assumes nothing.
use mathlib.Core.Path.{◌≡◌, refl, sym, ap, ◌∙◌}
use mathlib.Core.Bool.{Bool, true, false, cond, not, and-eq-true_iff}
use mathlib.Core.List.{List}
use mathlib.Core.Logic.{⊎_elim}
use Prim.Native.Nat.{ℕ, ◌≤◌, ◌<◌}
use native.Mathlib.Omega.{arith}
use lib.Dec.{eqb, ltb}
use lib.ListN.{drop}
use borrow.Author.Tests.{ne_eqb, eqb-true, lt-ltb, le-ltb}
use Rattle.words.proofs.Cases.{tested, either}
use Rattle.counter.specs.declared.Channel.{Channel}
use Rattle.ports.specs.Pins.{WholePin, whole_at}
use Rattle.ports.specs.Virtuals.{virtual_at}
use Rattle.ports.specs.declared.Pin.{Pin}
use Rattle.ports.specs.declared.Virtual.{Virtual}
use Rattle.control.specs.declared.Core.{Core}
use Rattle.calls.specs.declared.Reply.{Reply}
use Rattle.calls.specs.Fields.{is_step, step_fits}
use Rattle.calls.specs.ChannelCalls.{mode_write, route_write, snapshot_read, channel_call}
use Rattle.calls.specs.PinCalls.{pin_call, whole_call}
use Rattle.calls.specs.VirtualCalls.{virtual_call}
use Rattle.calls.specs.BoardCalls.{interval_write, board_call}
use Rattle.calls.specs.declared.Event.{Event}
use Rattle.calls.specs.declared.Answer.{Answer}
use Rattle.board.specs.Inputs.{channel_in}
use Rattle.board.specs.Respond.{class_of, refusal_in, refusal_by, passed_by, checked, called_by, respond_with, respond}
use Rattle.board.specs.Refusals.{Refusal, is_missing, refusals, first, InOrder}
use Rattle.board.specs.Handed.{repaired_board}
use Rattle.board.specs.declared.Class.{Class}
use Rattle.board.specs.declared.Class.TheVariants.{Step, OnChannel, OnPin, OnVirtual, OnBoard, Unknown}
use Rattle.board.specs.declared.Board.{Board}
use Rattle.board.proofs.Checks.{by-checks}
use Rattle.board.proofs.Classes.{code, other, other-kind, kinds-of}
use Rattle.board.proofs.Kept.{answered}

-- ---- an event

-- the result of a choice is the choice of the results
result-of : {X : Type 0} (t : Bool) (x y : Reply X) → (cond t x y).answer.result ≡ cond t x.answer.result y.answer.result
result-of true x y = refl
result-of false x y = refl

module _ (b : Board) (e : Event) where
  abbrev k : ℕ
  k = e.kind

  abbrev swe : Bool
  swe = b.core.safety.writes

  abbrev c : Channel
  c = channel_in b.channels e.member

  -- what the calls decide, behind the four checks
  abbrev pub later : List Refusal
  later = drop 4 (refusals b e)

  -- ---- the calls

  module _ (h₁ : eqb k 1 ≡ false) (h₄ : eqb k 4 ≡ false) (h₁₁ : eqb k 11 ≡ false) where
    none-later : eqb k 25 ≡ false → first later ≡ 0
    unfolding refusals first
    none-later h₂₅ = rw (h₁, h₄, h₁₁, h₂₅)

    interval-later : eqb k 25 ≡ true → first later ≡ cond b.core.watchdog.enabled 7 0
    unfolding refusals first
    interval-later h₂₅ = rw (h₁, h₄, h₁₁, h₂₅)

  -- the calls of a class other than those of channels and of the board decide nothing
  no-later : (C : Class) → class_of k ≡ C → eqb (code C) 1 ≡ false → eqb (code C) 4 ≡ false → 0 ≡ first later
  no-later C class d f =
      sym (none-later (other-kind k 1 C class d) (other-kind k 4 C class d) (other-kind k 11 C class d) (other-kind k 25 C class f))

  channel-later : class_of k ≡ OnChannel → (channel_call b.core.clock.timestamp e c).answer.result ≡ first later
  unfolding channel_call mode_write route_write snapshot_read refusals first
  channel-later class =
      let P : Reply Channel → Type 0 = λ r. r.answer.result ≡ first later in
      let is : (n : ℕ) → eqb k n ≡ true → k ≡ n = λ n. eqb-true k n in
      tested P (eqb k 1) (λ h. rw (is 1 h) (result-of c.running _ _)) (λ h₁.
      tested P (eqb k 2) (λ h. rw (is 2 h) refl) (λ _.
      tested P (eqb k 3) (λ h. rw (is 3 h) refl) (λ _.
      tested P (eqb k 4) (λ h. rw (is 4 h) (result-of c.running _ _)) (λ h₄.
      tested P (eqb k 5) (λ h. rw (is 5 h) refl) (λ _.
      tested P (eqb k 6) (λ h. rw (is 6 h) refl) (λ _.
      tested P (eqb k 7) (λ h. rw (is 7 h) refl) (λ _.
      tested P (eqb k 8) (λ h. rw (is 8 h) refl) (λ _.
      tested P (eqb k 9) (λ h. rw (is 9 h) refl) (λ _.
      tested P (eqb k 10) (λ h. rw (is 10 h) refl) (λ _.
      tested P (eqb k 11) (λ h. rw (is 11 h) (result-of (ltb 0 c.lost) _ _ ∙ ap (cond (ltb 0 c.lost) 6) (result-of (eqb c.held 0) _ _))) (λ h₁₁.
      sym (none-later h₁ h₄ h₁₁ (other-kind k 25 OnChannel class refl)))))))))))))

  pin-later : class_of k ≡ OnPin → (whole_call e (whole_at b.pins e.member)).answer.result ≡ first later
  unfolding whole_call pin_call
  pin-later class =
      let none = no-later OnPin class refl refl in
      let P : Reply Pin → Type 0 = λ r. r.answer.result ≡ first later in
      either (λ (r : Reply WholePin). r.answer.result ≡ first later) (eqb k 30) none
      (either P (eqb k 13) none (either P (eqb k 14) none (either P (eqb k 15) none (either P (eqb k 16) none none))))

  virtual-later : class_of k ≡ OnVirtual → (virtual_call e (virtual_at b.virtuals e.member)).answer.result ≡ first later
  unfolding virtual_call
  virtual-later class =
      let none = no-later OnVirtual class refl refl in
      let P : Reply Virtual → Type 0 = λ r. r.answer.result ≡ first later in
      either P (eqb k 18) none (either P (eqb k 19) none (either P (eqb k 20) none none))

  board-later : class_of k ≡ OnBoard → (board_call e b.core).answer.result ≡ first later
  unfolding board_call interval_write
  board-later class =
      let h₁ = other-kind k 1 OnBoard class refl in
      let h₄ = other-kind k 4 OnBoard class refl in
      let h₁₁ = other-kind k 11 OnBoard class refl in
      let P : Reply Core → Type 0 = λ r. r.answer.result ≡ first later in
      let past : (n : ℕ) → eqb n 25 ≡ false → eqb k n ≡ true → 0 ≡ first later = λ n d h. sym (none-later h₁ h₄ h₁₁ (other k n 25 h d)) in
      tested P (eqb k 22) (past 22 refl) (λ _.
      tested P (eqb k 23) (past 23 refl) (λ _.
      tested P (eqb k 24) (past 24 refl) (λ _.
      tested P (eqb k 25) (λ h. result-of b.core.watchdog.enabled _ _ ∙ sym (interval-later h₁ h₄ h₁₁ h)) (λ h₂₅.
      let none = sym (none-later h₁ h₄ h₁₁ h₂₅) in
      either P (eqb k 26) none (either P (eqb k 27) none (either P (eqb k 28) none none))))))

  -- past the checks
  pub passed_later : (C : Class) → class_of k ≡ C → (passed_by C b e).answer.result ≡ first later
  unfolding passed_by
  passed_later Step class = no-later Step class refl refl
  passed_later OnChannel class = channel-later class
  passed_later OnPin class = pin-later class
  passed_later OnVirtual class = virtual-later class
  passed_later OnBoard class = board-later class
  passed_later Unknown class = no-later Unknown class refl refl

  -- ---- steps and unknown kinds

  taken_step : is_step e ≡ true → 0 ≡ first (refusals b e)
  unfolding refusals first is_missing step_fits
  taken_step s =
      let a = (and-eq-true_iff (eqb k 0) (step_fits e)).0 s in
      rw (eqb-true k 0 a.0, a.1)

  refused-step : k ≡ 0 → is_step e ≡ false → 3 ≡ first (refusals b e)
  unfolding refusals first is_missing step_fits
  refused-step z s =
      let unfit : step_fits e ≡ false = rw z at s in
      rw (z, unfit)

  unknown : 31 ≤ k → 2 ≡ first (refusals b e)
  unfolding refusals first
  unknown h = rw (lt-ltb 30 k (omega arith))

  -- ---- the checks

  module _ (C : Class) (n : ℕ) (class : class_of k ≡ C) (low : 1 ≤ k) (high : k < 31) (missing : is_missing C e.member ≡ not (ltb e.member n)) where
    checked-first : (r : Reply Board) → r.answer.result ≡ first later → (checked (refusal_in n swe e) b r).answer.result ≡ first (refusals b e)
    unfolding refusals first
    checked-first r h =
        let known : ltb 30 k ≡ false = le-ltb 30 k (omega arith) in
        let call : eqb k 0 ≡ false = ne_eqb k 0 (λ z. omega arith) in
        by-checks n swe e (λ m. (checked m b r).answer.result ≡ first (refusals b e))
        (λ t. rw (known, class, missing, t))
        (λ t f. rw (known, class, missing, t, call, f))
        (λ t f z. rw (known, class, missing, t, call, f, z))
        (λ t f z. rw (known, class, missing, t, call, f, z) h)

  by-class : (C : Class) → class_of k ≡ C → is_step e ≡ false → (called_by C b e).answer.result ≡ first (refusals b e)
  unfolding called_by refusal_by is_missing
  by-class Step class s = refused-step (kinds-of k Step class) s
  by-class OnChannel class s =
      let r = kinds-of k OnChannel class in
      checked-first OnChannel 6 class r.0 (omega (arith, r.1)) refl _ (passed_later OnChannel class)
  by-class OnPin class s =
      let r = kinds-of k OnPin class in
      checked-first OnPin 48 class (⊎_elim (λ i. omega (arith, i.0)) (λ z. omega (arith, z)) r) (⊎_elim (λ i. omega (arith, i.1)) (λ z. omega (arith, z)) r) refl _ (passed_later OnPin class)
  by-class OnVirtual class s =
      let r = kinds-of k OnVirtual class in
      checked-first OnVirtual 6 class (omega (arith, r.0)) (omega (arith, r.1)) refl _ (passed_later OnVirtual class)
  by-class OnBoard class s =
      let r = kinds-of k OnBoard class in
      checked-first OnBoard 1 class (omega (arith, r.0)) (omega (arith, r.1)) refl _ (passed_later OnBoard class)
  by-class Unknown class s = unknown (kinds-of k Unknown class)

  pub answered-first : (respond b e).answer.result ≡ first (refusals b e)
  unfolding respond respond_with
  answered-first = tested (λ (r : Reply Board). r.answer.result ≡ first (refusals b e)) (is_step e) taken_step (by-class (class_of k) refl)

pub in_order : (b : Board) (e : Event) → InOrder b e
in_order b e = record {
  board = answered-first b e;
  handed = ap (λ (a : Answer). a.result) (answered b e) ∙ answered-first (repaired_board b) e;
}
