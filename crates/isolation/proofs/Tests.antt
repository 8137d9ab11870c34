-- Settings whose six tests hold are closed, and so is a list after each of whose events they hold.
-- Assumes nothing.
use mathlib.Core.Path.{◌≡◌, refl}
use mathlib.Core.Bool.{Bool, true, false, ◌&&◌, and-eq-true_iff}
use mathlib.Core.List.{List, [], ◌∷◌}
use Prim.Native.Nat.{ℕ, zero, suc}
use native.Mathlib.Omega.{arith}
use lib.Dec.{eqb, ltb}
use lib.ListN.{get_or}
use borrow.Author.Tests.{eq-eqb, eqb-true, lt-ltb, ltb-true}
use Rattle.words.specs.Bits.{every}
use Rattle.counter.specs.Mode.{XS, K}
use Rattle.control.specs.Safety.{pin_triggers}
use Rattle.calls.specs.declared.Reply.{Reply}
use Rattle.calls.specs.declared.Answer.{Answer}
use Rattle.board.specs.Handed.{reset_board}
use Rattle.reach.proofs.Cases.{asked}
use Rattle.words.proofs.Every.{every-at, every-by}
use Rattle.isolation.specs.Lists.{AfterEach}
use Rattle.isolation.specs.Members.{Members}
use Rattle.isolation.specs.Settings.{Settings, untold, told}
use Rattle.isolation.specs.Closed.{Closed}
use Rattle.isolation.specs.Tests.{implies, carrying_at, indexing_at, routed_pin_at, routed_virtual_at, driving_at, clauses, all, after_each, Decided}

-- one of all
each : (ts : List Bool) → all ts ≡ true → (k : ℕ) → get_or ts k true ≡ true
unfolding all
each [] h k = refl
each (t ∷ ts) h zero = ((and-eq-true_iff t (all ts)).0 h).0
each (t ∷ ts) h (suc k) = each ts ((and-eq-true_iff t (all ts)).0 h).1 k

implying : (s t : Bool) → (s ≡ true → t ≡ true) → implies s t ≡ true
implying true t h = h refl
implying false t h = refl

-- settings
closed-by-tests : (M : Members) (s : Settings) → all (clauses M s) ≡ true → Closed M s
unfolding clauses
closed-by-tests M s h =
    let of : (k : ℕ) → get_or (clauses M s) k true ≡ true = each (clauses M s) h in
    record {
      carrying = λ c k m e. asked (M.is_channel c && eqb (K (s.mode c)) 4) _ (every-at 6 (carrying_at M s) (of 0) c k) (rw m (eq-eqb _ 4 e));
      indexing = λ c k m l u.
          let x : ℕ = XS (s.mode c) in
          asked (M.is_channel c && ltb 1 x && ltb x 8) _ (every-at 6 (indexing_at M s) (of 1) c k) (rw (m, lt-ltb 1 x l, lt-ltb x 8 (omega arith)) refl);
      routed_pin = λ c k m u.
          asked (M.is_channel c && ltb (s.route c) 48) _ (every-at 6 (routed_pin_at M s) (of 2) c k) (rw m (lt-ltb (s.route c) 48 (omega arith)));
      routed_virtual = λ c k m l u.
          let r : ℕ = s.route c in
          asked (M.is_channel c && ltb 47 r && ltb r 54) _ (every-at 6 (routed_virtual_at M s) (of 3) c k) (rw (m, lt-ltb 47 r l, lt-ltb r 54 (omega arith)) refl);
      driving = λ p k m l u.
          let n : ℕ = s.source p in
          asked (M.is_pin p && ltb 0 n && ltb n 7) _ (every-at 48 (driving_at M s) (of 4) p k) (rw (m, lt-ltb 0 n l, lt-ltb n 7 (omega arith)) refl);
      triggering = asked (pin_triggers s.control) (M.is_pin 47) (of 5);
    }

tests-of-closed : (M : Members) (s : Settings) → Closed M s → all (clauses M s) ≡ true
unfolding clauses all
tests-of-closed M s q =
    let two : (a b : Bool) → (a && b) ≡ true → (a ≡ true) × (b ≡ true) = λ a b. (and-eq-true_iff a b).0 in
    let three : (a b c : Bool) → (a && b && c) ≡ true → (a ≡ true) × (b ≡ true) × (c ≡ true) =
    λ a b c h. ((two a b (two (a && b) c h).0).0, (two a b (two (a && b) c h).0).1, (two (a && b) c h).1) in
    let carrying : every 6 (carrying_at M s) ≡ true = every-by 6 _ (λ c k. implying _ _ (λ u.
    let h = two (M.is_channel c) (eqb (K (s.mode c)) 4) u in q.carrying c k h.0 (eqb-true _ 4 h.1))) in
    let indexing : every 6 (indexing_at M s) ≡ true = every-by 6 _ (λ c k. implying _ _ (λ u.
    let x : ℕ = XS (s.mode c) in
    let h = three (M.is_channel c) (ltb 1 x) (ltb x 8) u in q.indexing c k h.0 (ltb-true 1 x h.1) (omega (arith, ltb-true x 8 h.2)))) in
    let pins : every 6 (routed_pin_at M s) ≡ true = every-by 6 _ (λ c k. implying _ _ (λ u.
    let h = two (M.is_channel c) (ltb (s.route c) 48) u in q.routed_pin c k h.0 (omega (arith, ltb-true (s.route c) 48 h.1)))) in
    let virtuals : every 6 (routed_virtual_at M s) ≡ true = every-by 6 _ (λ c k. implying _ _ (λ u.
    let r : ℕ = s.route c in
    let h = three (M.is_channel c) (ltb 47 r) (ltb r 54) u in q.routed_virtual c k h.0 (ltb-true 47 r h.1) (omega (arith, ltb-true r 54 h.2)))) in
    let driving : every 48 (driving_at M s) ≡ true = every-by 48 _ (λ p k. implying _ _ (λ u.
    let n : ℕ = s.source p in
    let h = three (M.is_pin p) (ltb 0 n) (ltb n 7) u in q.driving p k h.0 (ltb-true 0 n h.1) (omega (arith, ltb-true n 7 h.2)))) in
    let trigger : implies (pin_triggers s.control) (M.is_pin 47) ≡ true = implying _ _ q.triggering in
    rw (carrying, indexing, pins, virtuals, driving, trigger) refl

-- ---- lists

-- a test that decides P, after every event
module _ {S E T : Type 0} (machine : S → E → Reply S) (tell : T → E → Answer → T) (test : T → Bool) (P : T → Type 0) where
  after-each : ((t : T) → test t ≡ true → P t) → (t : T) (s : S) (es : List E) → after_each machine tell test t s es ≡ true → AfterEach machine tell P t s es
  unfolding after_each
  after-each d t s [] h = tt
  after-each d t s (e ∷ es) h =
      let p = (and-eq-true_iff (test (tell t e (machine s e).answer)) _).0 h in (d _ p.0, after-each d (tell t e (machine s e).answer) (machine s e).state es p.1)

  each_after : ((t : T) → P t → test t ≡ true) → (t : T) (s : S) (es : List E) → AfterEach machine tell P t s es → after_each machine tell test t s es ≡ true
  unfolding after_each
  each_after d t s [] h = refl
  each_after d t s (e ∷ es) h =
      (and-eq-true_iff (test (tell t e (machine s e).answer)) _).1 (d _ h.0, each_after d (tell t e (machine s e).answer) (machine s e).state es h.1)

pub decided : Decided
decided machine M es = (
  after-each machine told (λ s. all (clauses M s)) (Closed M) (closed-by-tests M) untold reset_board es,
  each_after machine told (λ s. all (clauses M s)) (Closed M) (tests-of-closed M) untold reset_board es,
)
