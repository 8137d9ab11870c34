-- Request 3: what a step makes of each stage, and that each has expired after exactly the sum of the intervals up to it.
-- Assumes nothing.
use mathlib.Core.Path.{◌≡◌, refl, sym, ap, ◌∙◌}
use mathlib.Core.Bool.{Bool, true, false, cond, not, ◌&&◌, ◌||◌, and-eq-true_iff, or-false, true≢false}
use mathlib.Core.List.{List, [], ◌∷◌}
use Prim.Native.Nat.{ℕ, zero, suc, ◌+◌, ◌-◌, ◌≤◌, ◌<◌}
use native.Mathlib.Omega.{arith}
use lib.Dec.{eqb, ltb}
use lib.ListN.{get_or}
use borrow.Author.Tests.{lt-ltb, le-ltb, ltb-true, ltb-false, eq-eqb, ne_eqb, eqb-true, eqb-false, not-true}
use Rattle.words.proofs.Cases.{tested, either, taken}
use Rattle.words.proofs.Tables.{get_or-tab}
use Rattle.control.specs.Watchdog.{interval_of, rest_of, has_expired, begun, rests_after, expired_after, watched_in, watched, kicked, switched}
use Rattle.control.specs.declared.Watchdog.{Watchdog}
use Rattle.control.specs.declared.Core.{Core}
use Rattle.calls.specs.Reply.{refuse}
use Rattle.calls.specs.declared.Reply.{Reply}
use Rattle.calls.specs.Fields.{is_step, limits, limit, fits}
use Rattle.calls.specs.BoardCalls.{interval_write, board_call}
use Rattle.calls.specs.declared.Event.{Event}
use Rattle.board.specs.Step.{core_next, step_with, stepped}
use Rattle.board.specs.Respond.{class_of, refusal_by, passed_by, on_core, called_by, respond}
use Rattle.board.specs.Handed.{in_range, repaired_board}
use Rattle.board.specs.Runs.{finish}
use Rattle.board.specs.declared.Class.{Class}
use Rattle.board.specs.declared.Class.TheVariants.{Step, OnChannel, OnPin, OnVirtual, OnBoard, Unknown}
use Rattle.board.specs.declared.Board.{Board}
use Rattle.board.proofs.Same.{board-fields}
use Rattle.board.proofs.Steps.{of-step, of-call, step-answered}
use Rattle.reach.proofs.Fitting.{below-limit}
use Rattle.reach.proofs.RangedBoard.{past-checks}
use Rattle.reach.proofs.Reach.{demand2}
use Rattle.requests.specs.Lists.{NoneOf}
use Rattle.requests.specs.Stages.{dog, runs, Turn, OnStages, sum_of, accepted, begins, ends, steps_in, Sums, Request3}
use Rattle.requests.specs.Steps.{InSteps}
use Rattle.requests.proofs.Steps.{in-steps, in-steps-handed}

-- ---- a stage in a step

begun-on : (e k : ℕ) → k ≤ e → begun e k ≡ true
begun-on e zero h = refl
begun-on e (suc k) h = rw (ne_eqb (suc k) 0 (λ z. omega arith), lt-ltb (suc k - 1) e (omega arith))

begun-off : (e k : ℕ) → e < k → begun e k ≡ false
begun-off e zero h = absurd (omega arith)
begun-off e (suc k) h = rw (ne_eqb (suc k) 0 (λ z. omega arith), le-ltb (suc k - 1) e (omega arith))

-- a stage has expired after the step if it had before or reaches 0 in it
expired-next : (e : ℕ) (r : List ℕ) (k : ℕ) → k < 3 → ltb k (expired_after 3 e r) ≡ (ltb k e || (begun e k && eqb (get_or r k 0) 1))
unfolding expired_after
expired-next e r k h = go (ltb k e) refl (eqb k e) refl
  where
    next : ℕ → ℕ
    next n = cond (ltb n 3 && eqb (get_or r n 0) 1) (n + 1) n

    front : (t : Bool) → ltb k (cond t (k + 1) k) ≡ t
    front true = lt-ltb k (k + 1) (omega arith)
    front false = le-ltb k k (omega arith)

    go : (t : Bool) → ltb k e ≡ t → (u : Bool) → eqb k e ≡ u → ltb k (next e) ≡ (ltb k e || (begun e k && eqb (get_or r k 0) 1))
    go true p u q =
        let lower = ltb-true k e p in
        rw p (either (λ n. ltb k n ≡ true) (ltb e 3 && eqb (get_or r e 0) 1) (lt-ltb k (e + 1) (omega arith)) p)
    go false p true q =
        rw (← eqb-true k e q, lt-ltb k 3 h, le-ltb k k (omega arith), begun-on k k (omega arith)) (front (eqb (get_or r k 0) 1))
    go false p false q =
        let higher : e < k = omega (arith, ltb-false k e p, eqb-false k e q) in
        rw (p, begun-off e k higher) (either (λ n. ltb k n ≡ false) (ltb e 3 && eqb (get_or r e 0) 1) (le-ltb k (e + 1) (omega arith)) p)

module _ (d : Watchdog) where
  runs_on : d.enabled ≡ true → (k : ℕ) → runs d k ≡ begun d.expired k
  runs_on h zero = h
  runs_on h (suc k) = let one : suc k - 1 ≡ k = omega arith in rw (h, ne_eqb (suc k) 0 (λ z. omega arith), one)

  runs-off : d.enabled ≡ false → (k : ℕ) → runs d k ≡ false
  runs-off h zero = h
  runs-off h (suc k) = rw h

  pub turn : (k : ℕ) → k < 3 → Turn d (watched d) k
  unfolding watched watched_in rests_after
  turn k h = tested (λ x. Turn d x k) d.enabled on off
    where
      on : d.enabled ≡ true
          → Turn d (record { intervals = d.intervals; rests = rests_after 3 d.expired d.rests; expired = expired_after 3 d.expired d.rests; enabled = d.enabled }) k
      on t = record {
        interval = refl;
        rest = rw (runs_on t k) (get_or-tab 3 _ k 0 h ∙ rw (lt-ltb k 3 h));
        expired = rw (runs_on t k) (expired-next d.expired d.rests k h);
      }

      off : d.enabled ≡ false → Turn d d k
      off t = record { interval = refl; rest = rw (runs-off t k); expired = rw (runs-off t k) (sym (or-false (has_expired d k))) }

-- the watchdog after a step
pub dog-stepped : (b : Board) (v w : ℕ) → dog (stepped v w b) ≡ watched (dog b)
unfolding stepped step_with core_next
dog-stepped b v w = refl

pub on-stages : (b : Board) → InSteps OnStages b
on-stages b = in-steps OnStages b (λ v w k h. rw (dog-stepped b v w) (turn (dog b) k h))

-- ---- the count of a stage

-- n steps after the beginning of a count with the intervals of the watchdog i: the rest of stage k of d, and whether it has expired
record At (i : Watchdog) (n : ℕ) (d : Watchdog) (k : ℕ) : Type 0 where
  rest : rest_of d k ≡ interval_of i k - (n - sum_of i k)
  on : sum_of i (suc k) ≤ n → has_expired d k ≡ true
  off : n < sum_of i (suc k) → has_expired d k ≡ false

record Counted (i : Watchdog) (n : ℕ) (d : Watchdog) : Type 0 where
  enabled : d.enabled ≡ true
  stage : (k : ℕ) → k < 3 → At i n d k

module _ (i : Watchdog) (some : (k : ℕ) → k < 3 → 0 < interval_of i k) where
  sum-next : (k : ℕ) → sum_of i (suc k) ≡ sum_of i k + interval_of i k
  unfolding sum_of
  sum-next k = refl

  -- all rests at their intervals, and none expired
  counted-first : (d : Watchdog) → d.enabled ≡ true → d.rests ≡ i.intervals → d.expired ≡ 0 → Counted i 0 d
  counted-first d t r z = record {
    enabled = t;
    stage = λ k h. record {
      rest = rw r (omega arith);
      on = λ s. absurd (omega (arith, some k h, sum-next k));
      off = λ s. rw z (le-ltb k 0 (omega arith));
    };
  }

  module _ (n : ℕ) (d : Watchdog) (c : Counted i n d) where
    -- a stage runs once the intervals before it are over
    runs-from : (k : ℕ) → k < 3 → sum_of i k ≤ n → runs d k ≡ true
    runs-from zero h s = c.enabled
    runs-from (suc k) h s = rw c.enabled ((c.stage k (omega arith)).on s)

    rests-till : (k : ℕ) → k < 3 → n < sum_of i k → runs d k ≡ false
    unfolding sum_of
    rests-till zero h s = absurd (omega arith)
    rests-till (suc k) h s = rw c.enabled ((c.stage k (omega arith)).off s)

    stage-next : (k : ℕ) → k < 3 → At i (n + 1) (watched d) k
    stage-next k h = go (ltb n (sum_of i k)) refl
      where
        t : Turn d (watched d) k
        t = turn d k h

        a : At i n d k
        a = c.stage k h

        -- it had expired, or its last step has come
        reached : (u : Bool) → ltb n (sum_of i (suc k)) ≡ u → sum_of i k ≤ n → sum_of i (suc k) ≤ n + 1 → (has_expired d k || eqb (rest_of d k) 1) ≡ true
        reached true u ran s =
            let last = ltb-true n (sum_of i (suc k)) u in
            rw (a.off last, eq-eqb (rest_of d k) 1 (omega (arith, a.rest, some k h, sum-next k)))
        reached false u ran s = rw (a.on (ltb-false n (sum_of i (suc k)) u))

        go : (u : Bool) → ltb n (sum_of i k) ≡ u → At i (n + 1) (watched d) k
        go true u =
            let wait = ltb-true n (sum_of i k) u in
            let still = rests-till k h wait in
            record {
              rest = t.rest ∙ rw still (a.rest ∙ omega arith);
              on = λ s. absurd (omega (arith, some k h, sum-next k));
              off = λ s. t.expired ∙ rw (still, a.off (omega (arith, sum-next k)));
            }
        go false u =
            let ran = ltb-false n (sum_of i k) u in
            let run = runs-from k h ran in
            record {
              rest = t.rest ∙ rw run (ap (λ x. x - 1) a.rest ∙ omega arith);
              on = λ s. t.expired ∙ rw run (reached (ltb n (sum_of i (suc k))) refl ran s);
              off = λ s. t.expired ∙ rw (run, a.off (omega (arith, sum-next k)), ne_eqb (rest_of d k) 1 (λ z. omega (arith, a.rest, sum-next k)));
            }

    counted_next : Counted i (n + 1) (watched d)
    unfolding watched watched_in
    counted_next = record { enabled = either (λ (x : Watchdog). x.enabled ≡ true) d.enabled c.enabled c.enabled; stage = stage-next }

-- ---- the events

-- an event that is no accepted step and neither kicks nor disables leaves an enabled watchdog as it is
module _ (b : Board) (e : Event) (enabled : (dog b).enabled ≡ true) where
  stops : Bool
  stops = eqb e.kind 27 || (eqb e.kind 26 && eqb e.v 0)

  Keeps : {X : Type 0} → (X → Watchdog) → Reply X → Type 0
  Keeps at r = (eqb r.answer.result 0 && stops) ≡ false → at r.state ≡ dog b

  -- call 26 disables or finds the watchdog enabled
  switch-keeps : fits e ≡ true → eqb e.kind 26 ≡ true → stops ≡ false → (t : Bool) → eqb e.v 1 ≡ t → switched (eqb e.v 1) (dog b) ≡ dog b
  unfolding switched stops limit limits
  switch-keeps f h s true p = rw p (taken _ _ enabled)
  switch-keeps f h s false p =
      let off : e.v ≡ 0 = omega (arith, ltb-true e.v 2 (below-limit e f 26 h), eqb-false e.v 1 p) in
      let other = ne_eqb e.kind 27 (λ k. omega (arith, eqb-true e.kind 26 h)) in
      absurd (true≢false (rw (other, h, eq-eqb e.v 0 off) at s))

  core-keeps : fits e ≡ true → Keeps (λ k. k.watchdog) (board_call e b.core)
  unfolding board_call interval_write switched Keeps stops limit limits
  core-keeps f =
      let P : Reply Core → Type 0 = Keeps (λ (k : Core). k.watchdog) in
      let n = e.kind in
      either P (eqb n 22) (λ _. refl)
      (either P (eqb n 23) (λ _. refl)
      (either P (eqb n 24) (λ _. refl)
      (either P (eqb n 25) (tested P (dog b).enabled (λ _ _. refl) (λ h. absurd (true≢false (sym enabled ∙ h))))
      (tested P (eqb n 26) (λ h s. switch-keeps f h s (eqb e.v 1) refl) (λ _.
      tested P (eqb n 27) (λ h s. absurd (true≢false (rw h at s))) (λ _.
      either P (eqb n 28) (λ _. refl)
      (λ _. refl)))))))

  by-class : (C : Class) → Keeps dog (called_by C b e)
  unfolding called_by refusal_by passed_by Keeps
  by-class Step = λ _. refl
  by-class OnChannel = past-checks (Keeps dog) 6 _ e b _ (λ _ _ _ _. refl) (λ m f _. refl)
  by-class OnPin = past-checks (Keeps dog) 48 _ e b _ (λ _ _ _ _. refl) (λ m f _. refl)
  by-class OnVirtual = past-checks (Keeps dog) 6 _ e b _ (λ _ _ _ _. refl) (λ m f _. refl)
  by-class OnBoard = past-checks (Keeps dog) 1 _ e b _ (λ _ _ _ _. refl) (λ m f. core-keeps f)
  by-class Unknown = λ _. refl

  kept : is_step e ≡ false → ends b e ≡ false → dog (respond b e).state ≡ dog b
  unfolding Keeps stops
  kept s = rw (of-call b e s) (by-class (class_of e.kind))

-- a list in which no event kicks or disables
counted-list : (i : Watchdog) → ((k : ℕ) → k < 3 → 0 < interval_of i k) → (es : List Event) (b : Board) (n : ℕ) → Counted i n (dog b) → NoneOf ends b es
    → Counted i (n + steps_in b es) (dog (finish respond b es))
unfolding finish
counted-list i some [] b n c u = let none : n + 0 ≡ n = omega arith in rw none c
counted-list i some (e ∷ es) b n c u =
    rw (step-answered b e) (go (is_step e) refl (λ m x. counted-list i some es (respond b e).state m x u.1))
  where
    rest : ℕ
    rest = steps_in (respond b e).state es

    After : ℕ → Type 0
    After m = Counted i m (dog (finish respond (respond b e).state es))

    go : (t : Bool) → is_step e ≡ t → ((m : ℕ) → Counted i m (dog (respond b e).state) → After (m + rest)) → After (n + (cond t 1 0 + rest))
    go true s on =
        let one : n + (1 + rest) ≡ n + 1 + rest = omega arith in
        rw one (on (n + 1) (rw (of-step b e s, dog-stepped b e.v e.w) (counted_next i some n (dog b) c)))
    go false s on = let none : n + (0 + rest) ≡ n + rest = omega arith in rw none (on n (rw (kept b e c.enabled s u.0) c))

-- ---- the beginning

module _ (b : Board) (e : Event) where
  -- a call of the board, past its checks
  on-board : (P : Reply Board → Type 0) → is_step e ≡ false → class_of e.kind ≡ OnBoard → ((m : ℕ) → eqb m 0 ≡ false → P (refuse m b))
      → P (on_core (board_call e) b) → P (respond b e)
  unfolding called_by refusal_by passed_by
  on-board P s class r x = rw (of-call b e s, class) (past-checks P 1 _ e b _ (λ m z _. r m z) (λ m f. x))

  abbrev Begun : Reply Board → Type 0
  Begun r = eqb r.answer.result 0 ≡ true → Counted (dog b) 0 (dog r.state)

  module _ (some : (k : ℕ) → k < 3 → 0 < interval_of (dog b) k) where
    enabling : e.kind ≡ 26 → e.v ≡ 1 → (dog b).enabled ≡ false → Begun (respond b e)
    unfolding board_call switched kicked
    enabling k v off =
        on-board Begun (rw k refl) (rw k refl) (λ m z h. absurd (true≢false (sym h ∙ z)))
        (rw (k, v) (λ _. tested (Counted (dog b) 0) (dog b).enabled (λ on. absurd (true≢false (sym on ∙ off))) (λ _. counted-first (dog b) some _ refl refl refl)))

    kicking : e.kind ≡ 27 → (dog b).enabled ≡ true → Begun (respond b e)
    unfolding board_call kicked
    kicking k on =
        on-board Begun (rw k refl) (rw k refl) (λ m z h. absurd (true≢false (sym h ∙ z))) (rw k (λ _. counted-first (dog b) some _ on refl refl))

    begun-count : begins b e ≡ true → Counted (dog b) 0 (dog (respond b e).state)
    begun-count h =
        let a = (and-eq-true_iff (accepted b e) _).0 h in
        go (eqb e.kind 26 && eqb e.v 1 && not (dog b).enabled) refl a.1 a.0
      where
        go : (t : Bool) → (eqb e.kind 26 && eqb e.v 1 && not (dog b).enabled) ≡ t → (t || (eqb e.kind 27 && (dog b).enabled)) ≡ true → Begun (respond b e)
        go true t h =
            let c = (and-eq-true_iff _ (not (dog b).enabled)).0 t in
            let d = (and-eq-true_iff (eqb e.kind 26) (eqb e.v 1)).0 c.0 in
            enabling (eqb-true e.kind 26 d.0) (eqb-true e.v 1 d.1) (not-true _ c.1)
        go false t h =
            let c = (and-eq-true_iff (eqb e.kind 27) (dog b).enabled).0 h in
            kicking (eqb-true e.kind 27 c.0) c.1

-- ---- the sums

at_least : {i d : Watchdog} {n k : ℕ} → At i n d k → has_expired d k ≡ true → sum_of i (suc k) ≤ n
at_least {i = i} {n = n} {k = k} a x = go (ltb n (sum_of i (suc k))) refl
  where
    go : (t : Bool) → ltb n (sum_of i (suc k)) ≡ t → sum_of i (suc k) ≤ n
    go true t = absurd (true≢false (sym x ∙ a.off (ltb-true n (sum_of i (suc k)) t)))
    go false t = ltb-false n (sum_of i (suc k)) t

sums : (b : Board) → in_range b ≡ true → Sums b
unfolding finish
sums b r e h es u k m =
    let w = (board-fields b r).core.watchdog in
    let some : (k : ℕ) → k < 3 → 0 < interval_of (dog b) k = λ j l. ltb-true 0 (interval_of (dog b) j) (w.intervals.each j l) in
    let c = (counted-list (dog b) some es (respond b e).state 0 (begun-count b e some h) u).stage k m in
    (λ x. omega (arith, at_least c x), λ x. c.on (omega arith))

pub request3 : Request3
request3 = record {
  boards = on-stages;
  handed = λ b. in-steps-handed OnStages b (on-stages (repaired_board b));
  sums = sums;
  lists = λ es. sums _ (demand2.1 es).last;
}
