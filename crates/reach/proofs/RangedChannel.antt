-- Every call on a channel keeps it in range, and only the answers 0 and 6 change it.
-- Assumes nothing.
use mathlib.Core.Path.{◌≡◌, refl}
use mathlib.Core.Bool.{true, cond, true≢false}
use Prim.Native.Nat.{ℕ}
use lib.Dec.{eqb, ltb}
use Rattle.counter.specs.Mode.{TP, good_mode}
use Rattle.counter.specs.Setters.{with_mode, with_route, with_lost}
use Rattle.counter.specs.Preload.{allowed, preloaded, started}
use Rattle.counter.specs.Repair.{is_route, is_reasons}
use Rattle.counter.specs.declared.Channel.{Channel}
use Rattle.counter.proofs.Same.{ChannelInRange}
use Rattle.calls.specs.Reply.{refuse, accept}
use Rattle.calls.specs.declared.Reply.{Reply}
use Rattle.calls.specs.Fields.{limits, limit, fits}
use Rattle.calls.specs.ChannelCalls.{mode_write, route_write, mask_write, snapshot_read, channel_call}
use Rattle.calls.specs.declared.Event.{Event}
use Rattle.words.proofs.Cases.{tested, either}
use Rattle.reach.proofs.Fitting.{below-limit, good-mode}
use Rattle.reach.proofs.Sound.{Sound, refusal, done}
use Rattle.reach.proofs.RangedQueue.{free, captured-ranged, popped-ranged}

preloaded-ranged : (c : Channel) → ChannelInRange c → ChannelInRange (preloaded c)
unfolding preloaded
preloaded-ranged c r = either ChannelInRange (allowed c.mode c.count) (free r) r

started-ranged : (c : Channel) → ChannelInRange c → ChannelInRange (started c)
unfolding started
started-ranged c r =
    either ChannelInRange c.running r (either ChannelInRange (TP c.mode 24) (preloaded-ranged _ (free r)) (free r))

-- an answer 6 sets the lost count to 0
abbrev SoundCall : Channel → Reply Channel → Type 0
SoundCall c = Sound ChannelInRange (λ y. y ≡ c) (λ y. y ≡ with_lost 0 c)

module _ (c : Channel) (r : ChannelInRange c) where
  -- a write that a running channel refuses
  halted-sound : (d : Channel) → ChannelInRange d → SoundCall c (cond c.running (refuse 4 c) (accept d))
  halted-sound d p = either (SoundCall c) c.running (refusal 4 c refl r refl) (done p)

  mode-sound : (v : ℕ) → good_mode v ≡ true → SoundCall c (mode_write v c)
  unfolding mode_write
  mode-sound v g =
      halted-sound (with_mode v c) (record { mode = g; route = r.route; mask = r.mask; kept = r.kept; carry = r.carry; reasons = r.reasons; held = r.held })

  route-sound : (v : ℕ) → is_route v ≡ true → SoundCall c (route_write v c)
  unfolding route_write
  route-sound v b =
      halted-sound (with_route v c) (record { mode = r.mode; route = b; mask = r.mask; kept = r.kept; carry = r.carry; reasons = r.reasons; held = r.held })

  mask-sound : (v : ℕ) → is_reasons v ≡ true → SoundCall c (mask_write v c)
  mask-sound v b = done (record { mode = r.mode; route = r.route; mask = b; kept = r.kept; carry = r.carry; reasons = r.reasons; held = r.held })

  read-sound : SoundCall c (snapshot_read c)
  unfolding snapshot_read
  read-sound =
      either (SoundCall c) (ltb 0 c.lost)
      (record { ranged = free r; refused = λ i j. absurd (true≢false j); lost = λ j. refl })
      (either (SoundCall c) (eqb c.held 0) (refusal 5 c refl r refl) (done (popped-ranged c r)))

  pub channel-sound : (t : ℕ) (e : Event) → fits e ≡ true → SoundCall c (channel_call t e c)
  unfolding channel_call limit limits
  channel-sound t e f =
      let S = SoundCall c in
      let k = e.kind in
      tested S (eqb k 1) (λ h. mode-sound e.v (good-mode e f h)) (λ _.
      either S (eqb k 2) (done (free r))
      (either S (eqb k 3) (done (free r))
      (tested S (eqb k 4) (λ h. route-sound e.v (below-limit e f 4 h)) (λ _.
      tested S (eqb k 5) (λ h. mask-sound e.v (below-limit e f 5 h)) (λ _.
      either S (eqb k 6) (done (started-ranged c r))
      (either S (eqb k 7) (done (free r))
      (either S (eqb k 8) (done (captured-ranged c r c.count t 128 refl))
      (either S (eqb k 9) (done (preloaded-ranged c r))
      (either S (eqb k 10) (done r)
      (either S (eqb k 11) read-sound
      (done r)))))))))))
