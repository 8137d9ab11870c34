-- What the field checks of a call promise of the selector and of V.
-- Assumes nothing.
use mathlib.Core.Path.{◌≡◌}
use mathlib.Core.Bool.{Bool, true, not, ◌&&◌, ◌||◌, and-eq-true_iff}
use Prim.Native.Nat.{ℕ, ◌<◌}
use native.Mathlib.Omega.{arith}
use borrow.Author.Tests.{lt-ltb, ltb-true, eqb-true, eqb-false, not-true}
use lib.Dec.{eqb, ltb}
use Rattle.counter.specs.Mode.{good_mode}
use Rattle.control.specs.Watchdog.{is_interval}
use Rattle.calls.specs.Fields.{limit, selectors, fits}
use Rattle.calls.specs.declared.Event.{Event}
use Rattle.reach.proofs.Cases.{asked}

-- the checks of a call's fields, one by one
record Fitting (e : Event) : Type 0 where
  selector : ltb e.selector (selectors e.kind) ≡ true
  v : ltb e.v (limit e.kind) ≡ true
  mode : (not (eqb e.kind 1) || good_mode e.v) ≡ true
  interval : (not (eqb e.kind 25) || not (eqb e.v 0)) ≡ true

module _ (e : Event) (f : fits e ≡ true) where
  fitting : Fitting e
  unfolding fits
  fitting =
      let k = e.kind in
      let s : Bool = eqb e.spare 0 && ltb e.selector (selectors k) in
      let w : Bool = s && eqb e.w 0 in
      let v : Bool = w && ltb e.v (limit k) in
      let m : Bool = v && (not (eqb k 1) || good_mode e.v) in
      let three = (and-eq-true_iff m _).0 f in
      let two = (and-eq-true_iff v _).0 three.0 in
      let one = (and-eq-true_iff w _).0 two.0 in
      let none = (and-eq-true_iff s _).0 one.0 in
      record { selector = ((and-eq-true_iff (eqb e.spare 0) _).0 none.0).1; v = one.1; mode = two.1; interval = three.1 }

  pub below-selectors : e.selector < selectors e.kind
  below-selectors = ltb-true e.selector (selectors e.kind) fitting.selector

  pub below-limit : (k : ℕ) → eqb e.kind k ≡ true → ltb e.v (limit k) ≡ true
  below-limit k h = rw (← eqb-true e.kind k h) fitting.v

  pub good-mode : eqb e.kind 1 ≡ true → good_mode e.v ≡ true
  good-mode = asked (eqb e.kind 1) (good_mode e.v) fitting.mode

  pub not-zero : eqb e.kind 25 ≡ true → is_interval e.v ≡ true
  not-zero h = lt-ltb 0 e.v (omega (arith, eqb-false e.v 0 (not-true _ (asked (eqb e.kind 25) (not (eqb e.v 0)) fitting.interval h))))
