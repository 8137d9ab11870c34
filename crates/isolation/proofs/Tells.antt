-- Every event leaves the settings that the list tells and those of the board equal.
-- Assumes nothing.
use mathlib.Core.Path.{◌≡◌, refl, ap, sym, ◌∙◌}
use mathlib.Core.Bool.{true, false, and-eq-true_iff}
use Prim.Native.Nat.{ℕ, ◌<◌}
use native.Mathlib.Omega.{arith}
use lib.Dec.{eqb}
use lib.ListN.{get_or-replicate}
use borrow.Author.Tests.{ltb-true, eqb-true, eq-eqb}
use Rattle.words.proofs.BitLaws.{bit-none}
use Rattle.counter.specs.Repair.{no_channel, reset_channel}
use Rattle.counter.specs.declared.Channel.{Channel}
use Rattle.counter.proofs.Settings.{advance-same}
use Rattle.ports.proofs.Wholes.{source-held}
use Rattle.ports.specs.Pins.{pin_at, WholePin, whole_at, sensed, driven, reset_pins}
use Rattle.control.specs.Safety.{guarded}
use Rattle.control.specs.Whole.{reset_core}
use Rattle.calls.specs.Reply.{refuse}
use Rattle.calls.specs.declared.Reply.{Reply}
use Rattle.calls.specs.Fields.{is_step, fits}
use Rattle.calls.specs.ChannelCalls.{channel_call}
use Rattle.calls.specs.PinCalls.{whole_call}
use Rattle.calls.specs.BoardCalls.{board_call}
use Rattle.calls.specs.declared.Event.{Event}
use Rattle.calls.specs.declared.Answer.{Answer}
use Rattle.board.specs.Inputs.{channel_in, channel_next, all_next}
use Rattle.board.specs.Step.{core_next, step_with, stepped}
use Rattle.board.specs.Respond.{class_of, refusal_in, refusal_by, checked, passed_by, called_by, respond_with, respond}
use Rattle.board.specs.declared.Class.{Class}
use Rattle.board.specs.declared.Class.TheVariants.{Step, OnChannel, OnPin, OnVirtual, OnBoard, Unknown}
use Rattle.board.specs.Handed.{reset_board}
use Rattle.board.specs.declared.Board.{Board}
use Rattle.board.proofs.Classes.{code, other-kind}
use Rattle.board.proofs.Same.{InRange}
use Rattle.words.proofs.Cases.{tested}
use Rattle.words.proofs.Tables.{get_or-tab}
use Rattle.reach.proofs.RangedBoard.{past-checks}
use Rattle.reach.proofs.RangedPins.{whole-sound, whole-ranged}
use Rattle.isolation.specs.Settings.{Settings, untold, latest, told}
use Rattle.isolation.proofs.Placed.{channels-placed, pins-placed}
use Rattle.isolation.proofs.Told.{Told, settings_of, settings-told}
use Rattle.isolation.proofs.Sets.{set_by, Sets, SetChannel, channel-set, whole_set, core-set}
use Rattle.isolation.proofs.Latest.{of-another-kind, not-accepted, on-it, put-told}

-- ---- before the first event

pub told-at-reset : Told untold reset_board
unfolding untold reset_board reset_channel reset_pins pin_at reset_core
told-at-reset = record {
  mode = λ c h. ap (λ (x : Channel). x.mode) (get_or-replicate 6 c reset_channel no_channel h);
  route = λ c h. ap (λ (x : Channel). x.route) (get_or-replicate 6 c reset_channel no_channel h);
  source = λ p h. rw (bit-none p) refl;
  control = refl;
}

-- ---- events that tell nothing

-- call k is not among what the event tells
abbrev Silent : Event → Answer → ℕ → Type 0
Silent e a k = (i old : ℕ) → latest k i e a old ≡ old

quiet : (t : Settings) (b d : Board) (e : Event) (a : Answer) → Told t b → Told (settings_of b) d → Silent e a 1 → Silent e a 4 → Silent e a 13 → Silent e a 22 → Told (told t e a) d
unfolding told
quiet t b d e a m k k1 k4 k13 k22 = record {
  mode = λ c h. k.mode c h ∙ m.mode c h ∙ sym (k1 c (t.mode c));
  route = λ c h. k.route c h ∙ m.route c h ∙ sym (k4 c (t.route c));
  source = λ p h. k.source p h ∙ m.source p h ∙ sym (k13 p (t.source p));
  control = k.control ∙ m.control ∙ sym (k22 0 t.control);
}

module _ (e : Event) (a : Answer) where
  of-class : (C : Class) → class_of e.kind ≡ C → (k : ℕ) → eqb (code C) (code (class_of k)) ≡ false → Silent e a k
  of-class C p k d i old = of-another-kind k i e a old (other-kind e.kind k C p d)

  pub step-quiet : (t : Settings) (b d : Board) → class_of e.kind ≡ Step → Told t b → Told (settings_of b) d → Told (told t e a) d
  step-quiet t b d p m k =
      quiet t b d e a m k (of-class Step p 1 refl) (of-class Step p 4 refl) (of-class Step p 13 refl) (of-class Step p 22 refl)

-- ---- the step

pub class-of-step : (e : Event) → is_step e ≡ true → class_of e.kind ≡ Step
class-of-step e h = ap class_of (eqb-true e.kind 0 ((and-eq-true_iff (eqb e.kind 0) _).0 h).0)

stepped-keeps : (v w : ℕ) (b : Board) → Told (settings_of b) (stepped v w b)
unfolding stepped step_with all_next channel_next core_next guarded driven sensed pin_at
stepped-keeps v w b = record {
  mode = λ c h. ap (λ (x : Channel). x.mode) (get_or-tab 6 _ c no_channel h) ∙ (advance-same (channel_in b.channels c) _).mode;
  route = λ c h. ap (λ (x : Channel). x.route) (get_or-tab 6 _ c no_channel h) ∙ (advance-same (channel_in b.channels c) _).route;
  source = λ p h. refl;
  control = refl;
}

-- ---- every event

-- the reply r to the event e
record Telling (t : Settings) (e : Event) (r : Reply Board) : Type 0 where
  after : Told (told t e r.answer) r.state

module _ (t : Settings) (b : Board) (e : Event) (m : Told t b) (range : InRange b) where
  refused : (n : ℕ) → eqb n 0 ≡ false → Telling t e (refuse n b)
  refused n h = record { after = quiet t b b e _ m (settings-told b) (silent 1) (silent 4) (silent 13) (silent 22) }
    where
      silent : (k : ℕ) → Silent e (record { result = n; value = 0; timestamp = 0; reason = 0 }) k
      silent k i old = not-accepted k i e _ old h

  within : (n : ℕ) (r : Reply Board) → (e.member < n → fits e ≡ true → Telling t e r)
      → Telling t e (checked (refusal_in n b.core.safety.writes e) b r)
  within n r = past-checks (Telling t e) n _ e b r (λ m z _. refused m z)

  by-class : (C : Class) → class_of e.kind ≡ C → Telling t e (called_by C b e)
  unfolding called_by refusal_by passed_by told whole_at
  by-class Step p = refused 3 refl
  by-class OnChannel p = within 6 _ (λ k f.
      let c : Channel = channel_in b.channels e.member in
      let q : Reply Channel = channel_call b.core.clock.timestamp e c in
      let s : SetChannel c (eqb e.kind 1) (eqb e.kind 4) e.v q = channel-set c _ e in
      record {
        after = record {
          mode = put-told 6 channel_in b.channels (channels-placed b.channels range.six) (λ x. x.mode) 1 e q t.mode k s.mode.after m.mode;
          route = put-told 6 channel_in b.channels (channels-placed b.channels range.six) (λ x. x.route) 4 e q t.route k s.route.after m.route;
          source = λ i h. m.source i h ∙ sym (of-class e _ OnChannel p 13 refl i (t.source i));
          control = m.control ∙ sym (of-class e _ OnChannel p 22 refl 0 t.control);
        };
      })
  by-class OnPin p = within 48 _ (λ k f.
      let x : WholePin = whole_at b.pins e.member in
      let q : Reply WholePin = whole_call e x in
      let s : Sets (λ (z : WholePin). z.pin.source) (eqb e.kind 13) e.v x q = whole_set x e in
      record {
        after = record {
          mode = λ c h. m.mode c h ∙ sym (of-class e _ OnPin p 1 refl c (t.mode c));
          route = λ c h. m.route c h ∙ sym (of-class e _ OnPin p 4 refl c (t.route c));
          source =
              put-told 48 whole_at b.pins (pins-placed b.pins) (λ x. x.pin.source) 13 e q t.source k
              (source-held q.state (ltb-true _ 7 (whole-sound x (whole-ranged b.pins range.pins e.member k) e f).ranged.pin.source) ∙ s.after) m.source;
          control = m.control ∙ sym (of-class e _ OnPin p 22 refl 0 t.control);
        };
      })
  by-class OnVirtual p = within 6 _ (λ k f. record {
    after = quiet t b _ e _ m (record { mode = λ c h. refl; route = λ c h. refl; source = λ p h. refl; control = refl })
        (of-class e _ OnVirtual p 1 refl) (of-class e _ OnVirtual p 4 refl) (of-class e _ OnVirtual p 13 refl) (of-class e _ OnVirtual p 22 refl);
  })
  by-class OnBoard p = within 1 _ (λ k f. record {
    after = record {
      mode = λ c h. m.mode c h ∙ sym (of-class e _ OnBoard p 1 refl c (t.mode c));
      route = λ c h. m.route c h ∙ sym (of-class e _ OnBoard p 4 refl c (t.route c));
      source = λ i h. m.source i h ∙ sym (of-class e _ OnBoard p 13 refl i (t.source i));
      control =
          (core-set b.core e).after
          ∙ ap (λ z. set_by (eqb e.kind 22) (board_call e b.core).answer e.v z) m.control
          ∙ sym (on-it 22 0 e _ t.control (eq-eqb e.member 0 (omega arith)));
    };
  })
  by-class Unknown p = refused 2 refl

  pub respond-tells : Told (told t e (respond b e).answer) (respond b e).state
  unfolding respond respond_with
  respond-tells =
      (tested (Telling t e) (is_step e)
      (λ h. record { after = step-quiet e _ t b (stepped e.v e.w b) (class-of-step e h) m (stepped-keeps e.v e.w b) })
      (λ _. by-class (class_of e.kind) refl)).after
