-- Request 3, what stays as it was: the answers but for two bits, on the present machine and the one before it, side by side.
-- Assumes nothing.
use mathlib.Core.Path.{◌≡◌, refl, sym, ap, ◌∙◌}
use mathlib.Core.Bool.{Bool, true, false, cond, not, ◌&&◌, and-eq-true_iff, true≢false}
use mathlib.Core.List.{List, [], ◌∷◌}
use Prim.Native.Nat.{ℕ, suc, ◌+◌, ◌-◌, ◌*◌, ◌≤◌, ◌<◌}
use native.Mathlib.Omega.{arith}
use lib.Dec.{eqb, ltb}
use lib.ListN.{get_or}
use borrow.Author.Tests.{lt-ltb, le-ltb, ltb-true, ltb-false, eq-eqb, ne_eqb, eqb-true, eqb-false}
use Rattle.words.specs.Bits.{flags}
use Rattle.words.specs.Table.{tab}
use Rattle.words.proofs.BitLaws.{flag-lt}
use Rattle.words.proofs.Cases.{tested, either, paired}
use Rattle.counter.specs.declared.Channel.{Channel}
use Rattle.ports.specs.declared.Pins.{Pins}
use Rattle.ports.specs.declared.Virtuals.{Virtuals}
use Rattle.control.specs.Watchdog.{has_expired, rests_after, expired_after, watched_in, watched, kicked, with_interval, with_enabled, switched}
use Rattle.control.specs.Whole.{with_watchdog, reset_core}
use Rattle.control.specs.declared.Watchdog.{Watchdog}
use Rattle.control.specs.declared.Clock.{Clock}
use Rattle.control.specs.declared.Safety.{Safety}
use Rattle.control.specs.declared.Core.{Core}
use Rattle.calls.specs.Reply.{number, refuse, accept}
use Rattle.calls.specs.declared.Reply.{Reply}
use Rattle.calls.specs.Fields.{is_step, selectors, fits}
use Rattle.calls.specs.BoardCalls.{interval_write, board_status, board_call}
use Rattle.calls.specs.declared.Event.{Event}
use Rattle.calls.specs.declared.Answer.{Answer}
use Rattle.board.specs.Step.{core_next, step_with, stepped}
use Rattle.board.specs.Respond.{class_of, with_core, checked, refusal_in, refusal_by, passed_by, called_by, called, respond_with, respond}
use Rattle.board.specs.Handed.{reset_board}
use Rattle.board.specs.Runs.{finish}
use Rattle.board.specs.declared.Class.{Class}
use Rattle.board.specs.declared.Class.TheVariants.{Step, OnChannel, OnPin, OnVirtual, OnBoard, Unknown}
use Rattle.board.specs.declared.Board.{Board}
use Rattle.board.proofs.Classes.{other-kind, kinds-of}
use Rattle.reach.specs.Claim.{Every}
use Rattle.reach.proofs.Fitting.{below-selectors}
use Rattle.requests.specs.Stages.{dog}
use Rattle.requests.specs.Lists.{answers_as}
use Rattle.requests.specs.Without.{stepped_without3, called_without3, without3}
use Rattle.requests.specs.Before.{writes_stage, less_stage_bits, shown, SameStage, SameBut, Before3}

-- ---- the watchdog

-- a stage that has expired stays so
stays-expired : (n e : ℕ) (r : List ℕ) → ltb 0 e ≡ true → ltb 0 (expired_after n e r) ≡ true
unfolding expired_after
stays-expired n e r h = either (λ x. ltb 0 x ≡ true) (ltb e n && eqb (get_or r e 0) 1) (lt-ltb 0 (e + 1) (omega arith)) h

-- the step in which stage 0 may expire
first-expiry : (n e : ℕ) (r : List ℕ) → 0 < n → e ≡ 0 → expired_after n e r ≡ cond (eqb (get_or r 0 0) 1) 1 0
unfolding expired_after
first-expiry n e r h z = rw (z, lt-ltb 0 n h)

-- two choices by tests that are equal
alike-if : {A : Type 0} (R : A → A → Type 0) {t u : Bool} {a b f g : A} → u ≡ t → (t ≡ true → R a f) → (t ≡ false → R b g) → R (cond t a b) (cond u f g)
alike-if R {t = t} p h k = rw p (paired R t h k)

module _ (d x : Watchdog) (s : SameStage d x) where
  -- stage 0 goes on alike, and in the earlier machine it alone
  abbrev later : ℕ
  later = expired_after 1 x.expired x.rests

  expired-alike : (t : Bool) → has_expired d 0 ≡ t → (ltb 0 later ≡ ltb 0 (expired_after 3 d.expired d.rests)) × (ltb 1 later ≡ false)
  unfolding expired_after
  expired-alike true h =
      let h₁ = s.expired ∙ h in
      let one : 1 ≤ x.expired = ltb-true 0 x.expired h₁ in
      (stays-expired 1 x.expired x.rests h₁ ∙ sym (stays-expired 3 d.expired d.rests h), rw (le-ltb x.expired 1 one) s.others)
  expired-alike false h =
      let none : d.expired ≡ 0 = omega (arith, ltb-false 0 d.expired h) in
      let none₁ : x.expired ≡ 0 = omega (arith, ltb-false 0 x.expired (s.expired ∙ h)) in
      let first = first-expiry 1 x.expired x.rests (omega arith) none₁ in (
        ap (ltb 0) (first ∙ ap (λ n. cond (eqb n 1) 1 0) s.rest ∙ sym (first-expiry 3 d.expired d.rests (omega arith) none)),
        ap (ltb 1) first ∙ either (λ n. ltb 1 n ≡ false) (eqb (get_or x.rests 0 0) 1) refl refl,
      )

  watched-alike : SameStage (watched d) (watched_in 1 x)
  unfolding watched watched_in rests_after tab
  watched-alike =
      let e = expired-alike (has_expired d 0) refl in
      alike-if SameStage s.enabled (λ h. record { intervals = s.intervals; enabled = s.enabled; rest = ap (λ n. n - 1) s.rest; expired = e.0; others = e.1 })
      (λ h. s)

  kicked-alike : SameStage (kicked d) (kicked x)
  unfolding kicked
  kicked-alike = record { intervals = s.intervals; enabled = s.enabled; rest = ap (λ l. get_or l 0 0) s.intervals; expired = refl; others = refl }

  enabled-alike : (t : Bool) → SameStage (with_enabled t d) (with_enabled t x)
  enabled-alike t = record { intervals = s.intervals; enabled = refl; rest = s.rest; expired = s.expired; others = s.others }

  interval-alike : (k n : ℕ) → SameStage (with_interval k n d) (with_interval k n x)
  unfolding with_interval
  interval-alike k n = record { intervals = rw s.intervals; enabled = s.enabled; rest = s.rest; expired = s.expired; others = s.others }

switched-alike : (d x : Watchdog) → SameStage d x → (t : Bool) → SameStage (switched t d) (switched t x)
unfolding switched
switched-alike d x s true = alike-if SameStage s.enabled (λ h. s) (λ h. kicked-alike _ _ (enabled-alike d x s true))
switched-alike d x s false = enabled-alike d x s false

-- ---- an event on the board b, and on b with the watchdog x of the earlier machine

-- the answers but for two bits, and the boards but for the stages behind the first
record Follows (e : Event) (r q : Reply Board) : Type 0 where
  answer : shown e r.answer ≡ q.answer
  state : SameBut r.state q.state

-- without bits 4 and 5 two flags are gone
low-four : (a b c d f g : Bool) → less_stage_bits (flags a b c d + 16 * flags f g false false) ≡ flags a b c d + 16 * flags false false false false
low-four a b c d f g = omega (arith, flag-lt a, flag-lt b, flag-lt c, flag-lt d, flag-lt f, flag-lt g)

module _ (b : Board) (x : Watchdog) (s : SameStage (dog b) x) where
  abbrev earlier : Board
  earlier = with_core (with_watchdog x b.core) b

  stepped-alike : (v w : ℕ) → SameBut (stepped v w b) (stepped_without3 v w earlier)
  unfolding stepped step_with core_next
  stepped-alike v w =
      let n = watched-alike (dog b) x s in
      record {
        channels = rw n.expired;
        pins = rw n.expired;
        virtuals = refl;
        clock = refl;
        safety = rw n.expired;
        watchdog = n;
      }

  -- what leaves both cores alone
  same : (cs : List Channel) (p : Pins) (v : Virtuals)
      → SameBut (record { channels = cs; pins = p; virtuals = v; core = b.core }) (record { channels = cs; pins = p; virtuals = v; core = earlier.core })
  same cs p v = record { channels = refl; pins = refl; virtuals = refl; clock = refl; safety = refl; watchdog = s }

  module _ (e : Event) where
    -- every answer but that of call 29 is shown as it is, and of each one a value of 0
    as-it-is : {a : Answer} → eqb e.kind 29 ≡ false → shown e a ≡ a
    as-it-is h = rw h

    zero-shown : (r : ℕ) → shown e (number r 0) ≡ number r 0
    zero-shown r = either (λ (a : Answer). a ≡ number r 0) (eqb e.kind 29) refl refl

    refused : (n : ℕ) → Follows e (refuse n b) (refuse n earlier)
    refused n = record { answer = zero-shown n; state = same b.channels b.pins b.virtuals }

    checked-alike : (n : ℕ) (r q : Reply Board) → Follows e r q → Follows e (checked n b r) (checked n earlier q)
    checked-alike n r q f = paired (Follows e) (eqb n 0) (λ _. f) (λ _. refused n)

    -- ---- a call of the board

    record CoreFollows (r q : Reply Core) : Type 0 where
      answer : shown e r.answer ≡ q.answer
      clock : q.state.clock ≡ r.state.clock
      safety : q.state.safety ≡ r.state.safety
      watchdog : SameStage r.state.watchdog q.state.watchdog

    status-shown : e.kind ≡ 29 → shown e (board_status b.core).answer ≡ (board_status earlier.core).answer
    status-shown k =
        let t = b.core.safety in
        let d = dog b in
        let later : has_expired x 2 ≡ false = le-ltb 2 x.expired (omega (arith, ltb-false 1 x.expired s.others)) in
        rw (eq-eqb e.kind 29 k, s.expired, s.enabled, s.others, later)
        (ap (number 0) (low-four t.safemode (has_expired d 0) t.writes d.enabled (has_expired d 1) (has_expired d 2)))

    -- an accepted call that leaves both watchdogs alike
    accepts : (clock : Clock) (safety : Safety) (d y : Watchdog) → SameStage d y
        → CoreFollows (accept (record { clock = clock; watchdog = d; safety = safety })) (accept (record { clock = clock; watchdog = y; safety = safety }))
    accepts clock safety d y w = record { answer = zero-shown 0; clock = refl; safety = refl; watchdog = w }

    core-alike : class_of e.kind ≡ OnBoard → CoreFollows (board_call e b.core) (board_call e earlier.core)
    unfolding board_call interval_write
    core-alike class =
        let R = CoreFollows in
        let n = e.kind in
        let d = dog b in
        let clock = b.core.clock in
        let safety = b.core.safety in
        let range = kinds-of n OnBoard class in
        let past : (k : ℕ) → k ≤ n → eqb n k ≡ false → suc k ≤ n = λ k l h. omega (arith, eqb-false n k h) in
        paired R (eqb n 22) (λ _. accepts clock _ d x s) (λ h₂₂.
        paired R (eqb n 23) (λ _. accepts clock _ d x s) (λ h₂₃.
        paired R (eqb n 24) (λ _. accepts clock _ d x s) (λ h₂₄.
        paired R (eqb n 25) (λ _. alike-if R s.enabled
        (λ _. record { answer = zero-shown 7; clock = refl; safety = refl; watchdog = s })
        (λ _. accepts clock safety _ _ (interval-alike d x s e.selector e.v))) (λ h₂₅.
        paired R (eqb n 26) (λ _. accepts clock safety _ _ (switched-alike d x s (eqb e.v 1))) (λ h₂₆.
        paired R (eqb n 27) (λ _. accepts clock safety _ _ (kicked-alike d x s)) (λ h₂₇.
        paired R (eqb n 28) (λ h. record { answer = as-it-is (ne_eqb n 29 (λ k. omega (arith, eqb-true n 28 h))); clock = refl; safety = refl; watchdog = s }) (λ h₂₈.
        let at_least : 29 ≤ n = past 28 (past 27 (past 26 (past 25 (past 24 (past 23 (past 22 range.0 h₂₂) h₂₃) h₂₄) h₂₅) h₂₆) h₂₇) h₂₈ in
        let last : n ≡ 29 = omega (arith, range.1) in
        record { answer = status-shown last; clock = refl; safety = refl; watchdog = s })))))))

    -- ---- any call

    passed-alike : (C : Class) → class_of e.kind ≡ C → Follows e (passed_by C b e) (passed_by C earlier e)
    unfolding passed_by
    passed-alike Step class = refused 0
    passed-alike OnChannel class = record { answer = as-it-is (other-kind e.kind 29 OnChannel class refl); state = same _ b.pins b.virtuals }
    passed-alike OnPin class = record { answer = as-it-is (other-kind e.kind 29 OnPin class refl); state = same b.channels _ b.virtuals }
    passed-alike OnVirtual class = record { answer = as-it-is (other-kind e.kind 29 OnVirtual class refl); state = same b.channels b.pins _ }
    passed-alike OnBoard class =
        let k = core-alike class in
        record {
          answer = k.answer;
          state = record { channels = refl; pins = refl; virtuals = refl; clock = k.clock; safety = k.safety; watchdog = k.watchdog };
        }
    passed-alike Unknown class = refused 0

    class-alike : (C : Class) → class_of e.kind ≡ C → Follows e (called_by C b e) (called_by C earlier e)
    unfolding called_by
    class-alike C class = checked-alike (refusal_by C b.core.safety.writes e) (passed_by C b e) (passed_by C earlier e) (passed-alike C class)

    -- call 25 with a selector above 2 is refused by both
    module _ (w : writes_stage e ≡ false) (t : (eqb e.kind 25 && ltb 0 e.selector) ≡ true) where
      both : (eqb e.kind 25 ≡ true) × (ltb 0 e.selector ≡ true)
      both = (and-eq-true_iff (eqb e.kind 25) (ltb 0 e.selector)).0 t

      kind : e.kind ≡ 25
      kind = eqb-true e.kind 25 both.0

      no-stage : e.selector < 3 → ⊥
      no-stage h = go (eqb e.selector 1) refl (eqb e.selector 2) refl
        where
          go : (p : Bool) → eqb e.selector 1 ≡ p → (q : Bool) → eqb e.selector 2 ≡ q → ⊥
          go true p q r = true≢false (rw (both.0, p) at w)
          go false p true r = true≢false (rw (both.0, p, r) at w)
          go false p false r = omega (arith, ltb-true 0 e.selector both.1, eqb-false e.selector 1 p, eqb-false e.selector 2 r)

      unfit : (u : Bool) → fits e ≡ u → fits e ≡ false
      unfolding selectors
      unfit false f = f
      unfit true f =
          let three : selectors e.kind ≡ 3 = rw kind refl in
          absurd (no-stage (omega (arith, below-selectors e f, three)))

      refused-stage : called b e ≡ refuse (cond (ltb e.member 1) 3 1) b
      unfolding called_by refusal_by refusal_in
      refused-stage =
          let class : class_of e.kind ≡ OnBoard = rw kind refl in
          ap (λ C. called_by C b e) class ∙ rw (unfit (fits e) refl) (go (ltb e.member 1))
        where
          go : (u : Bool) → checked (cond (not u) 1 3) b (passed_by OnBoard b e) ≡ refuse (cond u 3 1) b
          go true = refl
          go false = refl

    called-alike : writes_stage e ≡ false → Follows e (called b e) (called_without3 earlier e)
    called-alike w =
        tested (Follows e (called b e)) (eqb e.kind 25 && ltb 0 e.selector)
        (λ t. rw (refused-stage w t) (refused (cond (ltb e.member 1) 3 1)))
        (λ _. class-alike (class_of e.kind) refl)

    event-alike : writes_stage e ≡ false → Follows e (respond b e) (without3 earlier e)
    unfolding respond without3 respond_with
    event-alike w =
        paired (Follows e) (is_step e) (λ h. record { answer = zero-shown 0; state = stepped-alike e.v e.w }) (λ h. called-alike w)

-- ---- lists

-- the earlier board is the present one with another watchdog
as_one : {b c : Board} → SameBut b c → c ≡ with_core (with_watchdog (dog c) b.core) b
as_one {b = b} {c = c} s = λ i. record {
  channels = s.channels i;
  pins = s.pins i;
  virtuals = s.virtuals i;
  core = record { clock = s.clock i; watchdog = c.core.watchdog; safety = s.safety i };
}

next-alike : (e : Event) → writes_stage e ≡ false → (b c : Board) → SameBut b c → Follows e (respond b e) (without3 c e)
next-alike e w b c s = rw (as_one s) (event-alike b (dog c) s.watchdog e w)

list-alike : (es : List Event) → Every (λ e. writes_stage e ≡ false) es → (b c : Board) → SameBut b c
    → (answers_as shown respond b es ≡ answers_as (λ e a. a) without3 c es) × SameBut (finish respond b es) (finish without3 c es)
unfolding finish
list-alike [] w b c s = (refl, s)
list-alike (e ∷ es) w b c s =
    let f = next-alike e w.0 b c s in
    let more = list-alike es w.1 (respond b e).state (without3 c e).state f.state in
    (ap (λ (a : Answer). a ∷ answers_as shown respond (respond b e).state es) f.answer ∙ ap (λ l. (without3 c e).answer ∷ l) more.0, more.1)

pub before3 : Before3
unfolding reset_board reset_core
before3 es w =
    let start : SameBut reset_board reset_board = record {
      channels = refl;
      pins = refl;
      virtuals = refl;
      clock = refl;
      safety = refl;
      watchdog = record { intervals = refl; enabled = refl; rest = refl; expired = refl; others = refl };
    } in
    let all = list-alike es w reset_board reset_board start in
    record { answers = all.0; last = all.1 }
