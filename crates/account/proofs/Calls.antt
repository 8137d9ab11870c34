-- Every call on a channel is booked.
-- Assumes nothing.
use mathlib.Core.Path.{◌≡◌, refl}
use mathlib.Core.Bool.{Bool, true, false, cond, ◌&&◌}
use Prim.Native.Nat.{ℕ}
use native.Mathlib.Omega.{arith}
use lib.Dec.{eqb, ltb}
use borrow.Author.Tests.{eqb-true, eqb-false}
use Rattle.words.specs.Bits.{flag}
use Rattle.words.proofs.Cases.{tested, either}
use Rattle.counter.specs.Mode.{TP}
use Rattle.counter.specs.Preload.{allowed, preloaded, started}
use Rattle.counter.specs.Queue.{popped}
use Rattle.counter.specs.declared.Channel.{Channel}
use Rattle.calls.specs.declared.Reply.{Reply}
use Rattle.calls.specs.ChannelCalls.{mode_write, route_write, snapshot_read, channel_call}
use Rattle.calls.specs.declared.Event.{Event}
use Rattle.account.specs.Counts.{is_full}
use Rattle.account.proofs.Booked.{Booked, Same, same, still, captured-booked}

module _ (c : Channel) where
  -- u is whether the call is call 8, v whether it is call 11
  abbrev pub Called : Bool → Bool → Reply Channel → Type 0
  Called u v r =
      let z : Bool = eqb r.answer.result 0 in
      Booked c (flag (u && z)) (flag (v && z)) (cond (v && eqb r.answer.result 6) r.answer.value 0) (flag (u && z && is_full c)) r.state

  -- ---- call 11

  read : Called false true (snapshot_read c)
  unfolding snapshot_read popped
  read =
      let P = Called false true in
      tested P (ltb 0 c.lost) (λ l. record { sum = omega arith; bound = omega arith; none = λ k. refl }) (λ l.
      tested P (eqb c.held 0) (λ z. still same) (λ z. record { sum = omega (arith, eqb-false c.held 0 z); bound = omega arith; none = λ k. refl }))

  -- ---- the others

  preload : (d : Channel) → Same c d → Same c (preloaded d)
  unfolding preloaded
  preload d s = either (Same c) (allowed d.mode d.count) (record { held = s.held; lost = s.lost }) s

  start : Same c (started c)
  unfolding started
  start =
      either (Same c) c.running same
      (either (Same c) (TP c.mode 24) (preload _ (record { held = refl; lost = refl })) (record { held = refl; lost = refl }))

  module _ (t : ℕ) (e : Event) where
    other : eqb e.kind 8 ≡ false → eqb e.kind 11 ≡ false → Same c (channel_call t e c).state
    unfolding channel_call mode_write route_write
    other h k =
        let P : Reply Channel → Type 0 = λ r. Same c r.state in
        let n : ℕ = e.kind in
        rw (h, k)
        (either P (eqb n 1) (either P c.running same (record { held = refl; lost = refl }))
        (either P (eqb n 2) (record { held = refl; lost = refl })
        (either P (eqb n 3) (record { held = refl; lost = refl })
        (either P (eqb n 4) (either P c.running same (record { held = refl; lost = refl }))
        (either P (eqb n 5) (record { held = refl; lost = refl })
        (either P (eqb n 6) start
        (either P (eqb n 7) (record { held = refl; lost = refl })
        (either P (eqb n 9) (preload c same)
        (either P (eqb n 10) same same)))))))))

    -- ---- every call

    quiet : {u v : Bool} (x : Reply Channel) → u ≡ false → v ≡ false → Same c x.state → Called u v x
    quiet x p q s = rw (p, q) (still s)

    pub call-booked : Called (eqb e.kind 8) (eqb e.kind 11) (channel_call t e c)
    unfolding channel_call
    call-booked = go (eqb e.kind 8) refl (eqb e.kind 11) refl
      where
        go : (u : Bool) → eqb e.kind 8 ≡ u → (v : Bool) → eqb e.kind 11 ≡ v → Called (eqb e.kind 8) (eqb e.kind 11) (channel_call t e c)
        go true p v q = rw (eqb-true e.kind 8 p) (captured-booked c c.count t 128)
        go false p true q = rw (eqb-true e.kind 11 q) read
        go false p false q = quiet (channel_call t e c) p q (other p q)
