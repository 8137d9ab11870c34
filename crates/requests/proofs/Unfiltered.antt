-- Request 6, what stays as it was: on a board without filters and waits the machine goes beside the one before, as long as no filter is written.
-- Assumes nothing.
use mathlib.Core.Path.{◌≡◌, refl, sym, ap, ◌∙◌}
use mathlib.Core.Bool.{Bool, true, false, not, ◌&&◌, true≢false}
use mathlib.Core.List.{[], ◌∷◌}
use Prim.Native.Nat.{ℕ}
use lib.Dec.{eqb}
use borrow.Author.Tests.{eq-eqb, eqb-true, not-false}
use Rattle.words.specs.Bits.{bit, word}
use Rattle.words.proofs.BitLaws.{bit_word, word-ext}
use Rattle.filters.specs.Filters.{filtered, put_filter, reset_filters}
use Rattle.filters.specs.declared.Filtered.{Filtered}
use Rattle.filters.proofs.StepLaws.{no-filters, put-none}
use Rattle.ports.specs.Setters.{with_level, with_filters}
use Rattle.ports.specs.Pins.{put_pin, raw_level, raw_levels, sensed, driven, reset_pins}
use Rattle.ports.specs.declared.Pins.{Pins}
use Rattle.ports.proofs.Wholes.{put-own-filter, put-own-pin}
use Rattle.control.specs.Watchdog.{watched}
use Rattle.calls.specs.declared.Reply.{Reply}
use Rattle.calls.specs.Fields.{is_step}
use Rattle.calls.specs.PinCalls.{pins_call, whole_call}
use Rattle.calls.specs.declared.Event.{Event}
use Rattle.board.specs.Step.{step_with, stepped}
use Rattle.board.specs.Respond.{class_of, with_pins, on_pins, refusal_by, passed_by, called_by, respond_with, respond}
use Rattle.board.specs.Handed.{reset_board, in_range}
use Rattle.board.specs.Runs.{finish}
use Rattle.board.specs.declared.Class.{Class}
use Rattle.board.specs.declared.Class.TheVariants.{Step, OnChannel, OnPin, OnVirtual, OnBoard, Unknown}
use Rattle.board.specs.declared.Board.{Board}
use Rattle.board.proofs.Same.{board-pins}
use Rattle.board.proofs.Steps.{of-step, of-call}
use Rattle.reach.proofs.RangedBoard.{past-checks}
use Rattle.reach.proofs.Reach.{reset-ranged, demand2}
use Rattle.requests.specs.Lists.{answers_to}
use Rattle.requests.specs.Without.{sensed_without6, stepped_without6, without6}
use Rattle.requests.specs.Filters.{filters, AsItWas, Unfiltered, Request6}
use Rattle.requests.proofs.Filters.{on-pin, steps, handed, read, written, last-differ, since-write}

-- ---- a step

sensed-raw : (x : Pins) (w : ℕ) → x.filters ≡ reset_filters → sensed w x ≡ sensed_without6 w x
unfolding sensed sensed_without6
sensed-raw x w none =
    let levels : word 48 (bit (raw_levels x w)) ≡ raw_levels x w = word-ext 48 _ (raw_level x w) (λ p h. bit_word 48 (raw_level x w) p h) in
    let r : filtered (raw_levels x w) x.level x.filters ≡ record { filters = x.filters; level = raw_levels x w } =
    ap (filtered (raw_levels x w) x.level) none ∙ no-filters (raw_levels x w) x.level ∙ (λ i. record { filters = sym none i; level = levels i }) in
    ap (λ (y : Filtered). with_filters y.filters (with_level y.level x)) r

stepped-raw : (v w : ℕ) (b : Board) → b.pins.filters ≡ reset_filters → stepped v w b ≡ stepped_without6 v w b
unfolding stepped step_with
stepped-raw v w b none = ap (λ (y : Pins). step_with (λ _ _. y) watched v w b) (sensed-raw b.pins w none)

-- ---- an event

-- the reply, beside that of the machine before: the same answer to another kind than 30, the same board, and no filter on it
record Beside (e : Event) (r q : Reply Board) : Type 0 where
  answer : eqb e.kind 30 ≡ false → r.answer ≡ q.answer
  state : r.state ≡ q.state
  none : r.state.pins.filters ≡ reset_filters

-- no filter is on the board of a reply
record NoFilters (r : Reply Board) : Type 0 where
  none : r.state.pins.filters ≡ reset_filters

module _ (b : Board) (r : in_range b ≡ true) (none : b.pins.filters ≡ reset_filters) (e : Event) where
  -- a call of another kind leaves the filters
  module _ (k : eqb e.kind 30 ≡ false) where
    pin-none : (pins_call e b.pins).state.filters ≡ reset_filters
    unfolding whole_call put_pin
    pin-none = rw k (ap (λ (y : Pins). y.filters) (put-own-filter b.pins (board-pins b r) e.member _) ∙ none)

    class-none : (C : Class) → (called_by C b e).state.pins.filters ≡ reset_filters
    unfolding called_by refusal_by passed_by
    class-none Step = none
    class-none OnChannel = (past-checks NoFilters 6 _ e b _ (λ _ _ _. record { none = none }) (λ _ _. record { none = none })).none
    class-none OnPin = (past-checks NoFilters 48 _ e b _ (λ _ _ _. record { none = none }) (λ _ _. record { none = pin-none })).none
    class-none OnVirtual = (past-checks NoFilters 6 _ e b _ (λ _ _ _. record { none = none }) (λ _ _. record { none = none })).none
    class-none OnBoard = (past-checks NoFilters 1 _ e b _ (λ _ _ _. record { none = none }) (λ _ _. record { none = none })).none
    class-none Unknown = none

  -- a filter of 0 changes nothing
  zero-written : e.kind ≡ 30 → e.v ≡ 0 → (on_pins (pins_call e) b).state ≡ b
  unfolding whole_call
  zero-written k z =
      rw (k, z)
      (ap (λ (y : Pins). with_pins y b) (put-own-pin b.pins (board-pins b r) e.member 0 0 ∙ ap (λ y. with_filters y b.pins) (ap (put_filter e.member 0 0) none ∙ put-none e.member ∙ sym none)))

  filter_same : e.kind ≡ 30 → filters b e ≡ false → (respond b e).state ≡ b
  unfolding whole_call
  filter_same k =
      on-pin b e (λ q. (eqb q.answer.result 0 && eqb e.kind 30 && not (eqb e.v 0)) ≡ false → q.state ≡ b) (rw k refl) (rw k refl)
      (λ _ _ _. refl)
      (λ _ _ f. zero-written k (eqb-true e.v 0 (not-false _ (rw k at f))))

  -- a step; a write of a filter that is 0 or is refused; every other call
  step-beside : is_step e ≡ true → Beside e (respond b e) (without6 b e)
  unfolding without6 respond_with stepped step_with driven sensed_without6
  step-beside s =
      let same : (respond b e).state ≡ (without6 b e).state = rw (s, of-step b e s) (stepped-raw e.v e.w b none) in
      record {
        answer = λ _. rw (of-step b e s, s);
        state = same;
        none = ap (λ (y : Board). y.pins.filters) same ∙ rw s none;
      }

  filter-beside : is_step e ≡ false → e.kind ≡ 30 → filters b e ≡ false → Beside e (respond b e) (without6 b e)
  unfolding without6 respond_with
  filter-beside s k f = record {
    answer = λ h. absurd (true≢false (sym (eq-eqb e.kind 30 k) ∙ h));
    state = filter_same k f ∙ rw (s, eq-eqb e.kind 30 k);
    none = rw (filter_same k f) none;
  }

  other-beside : is_step e ≡ false → eqb e.kind 30 ≡ false → Beside e (respond b e) (without6 b e)
  unfolding without6 respond_with
  other-beside s k =
      let same : respond b e ≡ without6 b e = of-call b e s ∙ rw (s, k) in
      record {
        answer = λ _. rw same;
        state = rw same;
        none = rw (of-call b e s) (class-none k (class_of e.kind));
      }

  event-same : filters b e ≡ false → Beside e (respond b e) (without6 b e)
  event-same f = go (is_step e) refl (eqb e.kind 30) refl
    where
      go : (s : Bool) → is_step e ≡ s → (t : Bool) → eqb e.kind 30 ≡ t → Beside e (respond b e) (without6 b e)
      go true s t k = step-beside s
      go false s true k = filter-beside s (eqb-true e.kind 30 k) f
      go false s false k = other-beside s k

-- ---- a list

abbrev other_kind : Event → Bool
other_kind e = not (eqb e.kind 30)

as_it_was : (b : Board) → in_range b ≡ true → b.pins.filters ≡ reset_filters → Unfiltered b
unfolding finish
as_it_was b r none [] u = record { answers = refl; last = refl }
as_it_was b r none (e ∷ es) u =
    let x : Beside e (respond b e) (without6 b e) = event-same b r none e u.0 in
    let next : Board = (respond b e).state in
    let rest : AsItWas next es = as_it_was next ((demand2.0 b r).stays e) x.none es u.1 in
    let more : answers_to other_kind respond next es ≡ answers_to other_kind without6 (without6 b e).state es = rest.answers ∙ ap (λ y. answers_to other_kind without6 y es) x.state in
    record {
      answers = go (eqb e.kind 30) refl x more;
      last = rest.last ∙ ap (λ y. finish without6 y es) x.state;
    }
  where
    go : (t : Bool) → eqb e.kind 30 ≡ t → Beside e (respond b e) (without6 b e)
        → answers_to other_kind respond (respond b e).state es ≡ answers_to other_kind without6 (without6 b e).state es
        → answers_to other_kind respond b (e ∷ es) ≡ answers_to other_kind without6 b (e ∷ es)
    go true k x more = rw k more
    go false k x more = rw k (λ i. x.answer k i ∷ more i)

pub request6 : Request6
unfolding reset_board reset_pins
request6 = record {
  steps = steps;
  handed = handed;
  reads = read;
  writes = written;
  law = last-differ;
  since_write = since-write;
  before = as_it_was;
  lists = as_it_was reset_board reset-ranged refl;
}
