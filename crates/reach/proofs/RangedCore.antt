-- The calls of the board and the parts of a step keep the board's own part in range.
-- Assumes nothing.
use mathlib.Core.Path.{◌≡◌, refl}
use mathlib.Core.Bool.{Bool, true, false, ◌&&◌, and-eq-true_iff}
use mathlib.Core.List.{List}
use Prim.Native.Nat.{ℕ, ◌+◌}
use native.Mathlib.Omega.{arith}
use lib.Dec.{eqb, ltb}
use lib.ListN.{length-set}
use borrow.Author.Tests.{lt-ltb, ltb-true}
use Rattle.words.proofs.Every.{AllGood}
use Rattle.words.proofs.Tables.{set_keeps}
use Rattle.control.specs.Clock.{prescaler_next, advanced}
use Rattle.control.specs.Watchdog.{rest_of, is_interval, is_expired, expired_after, watched_in, watched, kicked, with_interval, switched}
use Rattle.control.specs.Safety.{guarded}
use Rattle.control.specs.declared.Watchdog.{Watchdog}
use Rattle.control.specs.declared.Core.{Core}
use Rattle.control.proofs.Same.{WatchdogInRange, CoreInRange}
use Rattle.calls.specs.Fields.{limits, limit, fits}
use Rattle.calls.specs.BoardCalls.{interval_write, board_call}
use Rattle.calls.specs.declared.Event.{Event}
use Rattle.board.specs.Step.{core_next}
use Rattle.words.proofs.Cases.{tested, either}
use Rattle.reach.proofs.Fitting.{below-limit, not-zero}
use Rattle.reach.proofs.Sound.{Sound, Never, refusal, done}

-- ---- the watchdog

module _ (d : Watchdog) (r : WatchdogInRange d) where
  -- the fields with no range may have any value
  running : {rests : List ℕ} {expired : ℕ} {enabled : Bool} → is_expired expired ≡ true
      → WatchdogInRange (record { intervals = d.intervals; rests = rests; expired = expired; enabled = enabled })
  running h = record { intervals = r.intervals; expired = h }

  -- a stage more has expired only where one is left
  one_more : is_expired (expired_after 3 d.expired d.rests) ≡ true
  unfolding expired_after
  one_more =
      tested (λ n. is_expired n ≡ true) (ltb d.expired 3 && eqb (rest_of d d.expired) 1)
      (λ h. lt-ltb (d.expired + 1) 4 (omega (arith, ltb-true d.expired 3 ((and-eq-true_iff _ _).0 h).0))) (λ _. r.expired)

  watched-ranged : WatchdogInRange (watched d)
  unfolding watched watched_in
  watched-ranged = either WatchdogInRange d.enabled (running one_more) r

  kicked-ranged : WatchdogInRange (kicked d)
  unfolding kicked
  kicked-ranged = running refl

  switched-ranged : (t : Bool) → WatchdogInRange (switched t d)
  unfolding switched kicked
  switched-ranged true = either WatchdogInRange d.enabled r (running refl)
  switched-ranged false = running r.expired

  interval-ranged : (stage n : ℕ) → is_interval n ≡ true → WatchdogInRange (with_interval stage n d)
  unfolding with_interval
  interval-ranged stage n h = record {
    intervals = either (AllGood is_interval 3) (ltb stage 3)
        (record {
          places = simp length-set r.intervals.places;
          each = λ k b. set_keeps (λ x. is_interval x ≡ true) d.intervals stage n 0 k (r.intervals.each k b) h;
        })
        r.intervals;
    expired = r.expired;
  }

-- ---- the whole

-- the fields with no range may have any value
free : {k : Core} {d : Watchdog} {timestamp : ℕ} {writes safemode : Bool} → CoreInRange k → WatchdogInRange d
    → CoreInRange (record {
      clock = record { prescaler = k.clock.prescaler; timestamp = timestamp };
      watchdog = d;
      safety = record { control = k.safety.control; writes = writes; safemode = safemode };
    })
free r w = record { prescaler = r.prescaler; watchdog = w; control = r.control }

module _ (k : Core) (r : CoreInRange k) where
  pub core-sound : (e : Event) → fits e ≡ true → Sound CoreInRange (λ y. y ≡ k) Never (board_call e k)
  unfolding board_call interval_write limit limits
  core-sound e f =
      let S = Sound CoreInRange (λ y. y ≡ k) Never in
      let n = e.kind in
      let dog = k.watchdog in
      let w = r.watchdog in
      tested S (eqb n 22) (λ h. done (record { prescaler = r.prescaler; watchdog = w; control = below-limit e f 22 h })) (λ _.
      either S (eqb n 23) (done (free r w))
      (either S (eqb n 24) (done (free r w))
      (tested S (eqb n 25) (λ h. either S dog.enabled (refusal 7 k refl r refl)
      (done (free r (interval-ranged dog w e.selector e.v (not-zero e f h))))) (λ _.
      either S (eqb n 26) (done (free r (switched-ranged dog w (eqb e.v 1))))
      (either S (eqb n 27) (done (free r (kicked-ranged dog w)))
      (either S (eqb n 28) (done r)
      (done r)))))))

  pub core-ranged : (pin47 : Bool) → CoreInRange (core_next watched pin47 k)
  unfolding core_next advanced guarded
  core-ranged pin47 =
      record { prescaler = lt-ltb (prescaler_next k.clock.prescaler) 500_000_000 (omega arith); watchdog = watched-ranged k.watchdog r.watchdog; control = r.control }
