-- What the calls and the step do to the settings: only call 1 sets a mode, 4 a route, 13 a source and 22 the control, to V, where they are answered 0.
-- This is the one file here that goes through the kinds.
-- Assumes nothing.
use mathlib.Core.Path.{◌≡◌, refl}
use mathlib.Core.Bool.{Bool, true, false, cond, ◌&&◌}
use Prim.Native.Nat.{ℕ}
use lib.Dec.{eqb, ltb}
use Rattle.words.proofs.Cases.{tested, either}
use Rattle.counter.specs.Setters.{with_mode, with_route}
use Rattle.counter.specs.declared.Channel.{Channel}
use Rattle.counter.proofs.Settings.{SameSettings, captured-same, popped-same, preloaded-same, started-same}
use Rattle.ports.specs.Pins.{WholePin}
use Rattle.ports.specs.declared.Pin.{Pin}
use Rattle.control.specs.declared.Core.{Core}
use Rattle.calls.specs.Reply.{reply, refuse, accept}
use Rattle.calls.specs.declared.Reply.{Reply}
use Rattle.calls.specs.ChannelCalls.{mode_write, route_write, snapshot_read, channel_call}
use Rattle.calls.specs.PinCalls.{pin_call, whole_call}
use Rattle.calls.specs.BoardCalls.{interval_write, board_call}
use Rattle.calls.specs.declared.Event.{Event}
use Rattle.calls.specs.declared.Answer.{Answer}
use Rattle.board.proofs.Classes.{other}

-- a setting after a call: V if it is the call that sets it and it is accepted, else what it was
abbrev pub set_by : Bool → Answer → ℕ → ℕ → ℕ
set_by u a v old = cond (u && eqb a.result 0) v old

-- a reply to a call on x: its setting g is set by V if u, and kept if not
pub record Sets {X : Type 0} (g : X → ℕ) (u : Bool) (v : ℕ) (x : X) (r : Reply X) : Type 0 where
  pub after : g r.state ≡ set_by u r.answer v (g x)

module _ {X : Type 0} {g : X → ℕ} {x : X} where
  -- by a call that does not set it
  keeping : {u : Bool} {v : ℕ} {y : X} {a : Answer} → u ≡ false → g y ≡ g x → Sets g u v x (reply y a)
  keeping h s = record { after = rw h s }

  -- by a refusal
  refusing : (u : Bool) {v n : ℕ} → eqb n 0 ≡ false → Sets g u v x (refuse n x)
  refusing true h = record { after = rw h refl }
  refusing false h = record { after = refl }

-- ---- channels

module _ (c : Channel) where
  -- u: it is call 1, w: it is call 4
  pub record SetChannel (u w : Bool) (v : ℕ) (r : Reply Channel) : Type 0 where
    pub mode : Sets (λ x. x.mode) u v c r
    pub route : Sets (λ x. x.route) w v c r

  kept : {u w : Bool} {v : ℕ} {d : Channel} {a : Answer} → u ≡ false → w ≡ false → SameSettings c d → SetChannel u w v (reply d a)
  kept h j s = record { mode = keeping h s.mode; route = keeping j s.route }

  refused : (u w : Bool) (v n : ℕ) → eqb n 0 ≡ false → SetChannel u w v (refuse n c)
  refused u w v n h = record { mode = refusing u h; route = refusing w h }

  mode-set : (v : ℕ) → SetChannel true false v (mode_write v c)
  unfolding mode_write
  mode-set v =
      let written : SetChannel true false v (accept (with_mode v c)) = record { mode = record { after = refl }; route = record { after = refl } } in
      either (SetChannel true false v) c.running (refused true false v 4 refl) written

  route-set : (v : ℕ) → SetChannel false true v (route_write v c)
  unfolding route_write
  route-set v =
      let written : SetChannel false true v (accept (with_route v c)) = record { mode = record { after = refl }; route = record { after = refl } } in
      either (SetChannel false true v) c.running (refused false true v 4 refl) written

  read_set : {u w : Bool} (v : ℕ) → u ≡ false → w ≡ false → SetChannel u w v (snapshot_read c)
  unfolding snapshot_read
  read_set {u} {w} v h j =
      let S = SetChannel u w v in
      either S (ltb 0 c.lost) (kept h j (record { mode = refl; route = refl }))
      (either S (eqb c.held 0) (refused u w v 5 refl) (kept h j (popped-same c)))

  pub channel-set : (t : ℕ) (e : Event) → SetChannel (eqb e.kind 1) (eqb e.kind 4) e.v (channel_call t e c)
  unfolding channel_call
  channel-set t e =
      let k = e.kind in
      let S = SetChannel (eqb k 1) (eqb k 4) e.v in
      let same : SameSettings c c = record { mode = refl; route = refl } in
      tested S (eqb k 1) (λ h. rw (h, other k 1 4 h refl) (mode-set e.v)) (λ h1.
      tested S (eqb k 2) (λ h. kept h1 (other k 2 4 h refl) (record { mode = refl; route = refl })) (λ _.
      tested S (eqb k 3) (λ h. kept h1 (other k 3 4 h refl) (record { mode = refl; route = refl })) (λ _.
      tested S (eqb k 4) (λ h. rw (h1, h) (route-set e.v)) (λ h4.
      either S (eqb k 5) (kept h1 h4 (record { mode = refl; route = refl }))
      (either S (eqb k 6) (kept h1 h4 (started-same c))
      (either S (eqb k 7) (kept h1 h4 (record { mode = refl; route = refl }))
      (either S (eqb k 8) (kept h1 h4 (captured-same c _ _ _))
      (either S (eqb k 9) (kept h1 h4 (preloaded-same c _ same))
      (either S (eqb k 10) (kept h1 h4 same)
      (either S (eqb k 11) (read_set e.v h1 h4)
      (kept h1 h4 same)))))))))))

-- ---- pins and the board's own part

pin-set : (q : Pin) (e : Event) → Sets (λ x. x.source) (eqb e.kind 13) e.v q (pin_call e q)
unfolding pin_call
pin-set q e =
    let k = e.kind in
    let S = Sets (λ (x : Pin). x.source) (eqb k 13) e.v q in
    tested S (eqb k 13) (λ h. record { after = rw h refl }) (λ h.
    either S (eqb k 14) (keeping h refl)
    (either S (eqb k 15) (keeping h refl)
    (either S (eqb k 16) (keeping h refl)
    (keeping h refl))))

pub whole_set : (q : WholePin) (e : Event) → Sets (λ x. x.pin.source) (eqb e.kind 13) e.v q (whole_call e q)
unfolding whole_call
whole_set q e =
    tested (Sets (λ (x : WholePin). x.pin.source) (eqb e.kind 13) e.v q) (eqb e.kind 30) (λ h. keeping (other e.kind 30 13 h refl) refl)
    (λ _. record { after = (pin-set q.pin e).after })

pub core-set : (k : Core) (e : Event) → Sets (λ x. x.safety.control) (eqb e.kind 22) e.v k (board_call e k)
unfolding board_call interval_write
core-set k e =
    let n = e.kind in
    let S = Sets (λ (x : Core). x.safety.control) (eqb n 22) e.v k in
    tested S (eqb n 22) (λ h. record { after = rw h refl }) (λ h.
    either S (eqb n 23) (keeping h refl)
    (either S (eqb n 24) (keeping h refl)
    (either S (eqb n 25) (either S k.watchdog.enabled (keeping h refl) (keeping h refl))
    (either S (eqb n 26) (keeping h refl)
    (either S (eqb n 27) (keeping h refl)
    (either S (eqb n 28) (keeping h refl)
    (keeping h refl)))))))
