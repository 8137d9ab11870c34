-- Every event keeps a board in range, and only the answers 0 and 6 change it.
-- Assumes nothing.
use mathlib.Core.Path.{◌≡◌, refl, ap, sym, ◌∙◌}
use mathlib.Core.Bool.{Bool, true, false, not, beq}
use mathlib.Core.List.{List}
use Prim.Native.Nat.{ℕ, ◌+◌, ◌*◌, ◌<◌}
use native.Mathlib.Omega.{arith}
use borrow.Author.Tests.{ltb-true, lt-ltb}
use lib.Dec.{eqb}
use lib.ListN.{set, length-set}
use lib.Seq.{set-get_or}
use Rattle.words.specs.Bits.{bit}
use Rattle.counter.specs.Mode.{XS, IP}
use Rattle.counter.specs.Setters.{with_lost}
use Rattle.counter.specs.Repair.{is_kept, no_channel}
use Rattle.counter.specs.declared.Channel.{Channel}
use Rattle.counter.proofs.Same.{ChannelInRange}
use Rattle.ports.specs.Pins.{whole_at, put_whole}
use Rattle.ports.specs.Virtuals.{virtual_at, put_virtual, routed}
use Rattle.calls.specs.Reply.{refuse}
use Rattle.calls.specs.declared.Reply.{Reply}
use Rattle.calls.specs.Fields.{is_step, fits}
use Rattle.calls.specs.declared.Event.{Event}
use Rattle.board.specs.Inputs.{channel_in, neighbour, index_of, samples_of, inputs_of, channel_next, all_next}
use Rattle.board.specs.Step.{step_with, stepped}
use Rattle.board.specs.Respond.{class_of, with_channels, with_pins, with_virtuals, with_core, refusal_in, refusal_by, checked, passed_by, called_by, respond_with, respond}
use Rattle.board.specs.declared.Class.{Class}
use Rattle.board.specs.declared.Class.TheVariants.{Step, OnChannel, OnPin, OnVirtual, OnBoard, Unknown}
use Rattle.board.specs.Handed.{lost_cleared}
use Rattle.board.specs.declared.Board.{Board}
use Rattle.board.specs.declared.Scene.{Scene}
use Rattle.board.proofs.Checks.{by-checks}
use Rattle.board.proofs.Same.{InRange}
use Rattle.words.proofs.Cases.{either, taken}
use Rattle.words.proofs.Tables.{length-tab, get_or-tab, set_keeps}
use Rattle.reach.proofs.Sound.{Sound, refusal, done, put_back}
use Rattle.reach.proofs.RangedStep.{samples-kept, advance-ranged}
use Rattle.reach.proofs.RangedChannel.{channel-sound}
use Rattle.reach.proofs.RangedPins.{whole-sound, whole-ranged, put-whole-ranged, sensed-ranged, driven-ranged}
use Rattle.reach.proofs.RangedVirtuals.{virtual-sound, put-virtual-ranged}
use Rattle.reach.proofs.RangedCore.{core-sound, core-ranged}

-- ---- the step

pub neighbour-lt : (c : ℕ) → c < 6 → neighbour c < 6
neighbour-lt c k = either (λ n. n < 6) (eqb c 0) (omega arith) (omega arith)

now-ranged : (s : Scene) (c mode route : ℕ) → is_kept (samples_of s c mode route) ≡ true
unfolding samples_of
now-ranged s c mode route =
    samples-kept (bit s.lines (3 * c)) (bit s.lines (3 * c + 1)) (index_of (XS mode) (bit s.lines (3 * c + 2)) s.outs s.ticks)
    (not (beq (routed s.levels s.virtuals route) (IP mode)))

channel-ranged : (s : Scene) (cs : List Channel) (c : ℕ) → ChannelInRange (channel_in cs c) → ChannelInRange (channel_next s cs c)
unfolding channel_next inputs_of
channel-ranged s cs c r =
    let me = channel_in cs c in
    advance-ranged me r (inputs_of s c (channel_in cs (neighbour c)).carry me) (now-ranged s c me.mode me.route)

stepped-ranged : (v w : ℕ) (b : Board) → InRange b → InRange (stepped v w b)
unfolding stepped step_with all_next
stepped-ranged v w b r = record {
  six = length-tab 6 _;
  channels = λ c h. rw get_or-tab (channel-ranged _ b.channels c (r.channels c h));
  pins = driven-ranged _ (sensed-ranged b.pins r.pins w) _ _;
  virtuals = r.virtuals;
  core = core-ranged b.core r.core _;
}

-- ---- the calls

-- what holds of every refusal that leaves the board, and of a reply where the member is one of n and the fields fit, holds of the reply past these
-- checks
pub past-checks : (P : Reply Board → Type 0) (n : ℕ) (writes : Bool) (e : Event) (b : Board) (x : Reply Board)
    → ((m : ℕ) → eqb m 0 ≡ false → eqb m 6 ≡ false → P (refuse m b)) → (e.member < n → fits e ≡ true → P x) → P (checked (refusal_in n writes e) b x)
past-checks P n writes e b x r s =
    by-checks n writes e (λ k. P (checked k b x)) (λ _. r 1 refl refl) (λ _ _. r 3 refl refl) (λ _ _ _. r 12 refl refl) (λ h f _. s (ltb-true _ _ h) f)

-- an answer 6 sets the member's lost count to 0
abbrev pub SoundEvent : Board → Event → Reply Board → Type 0
SoundEvent b e = Sound InRange (λ y. y ≡ b) (λ y. y ≡ lost_cleared e.member b)

module _ (b : Board) (r : InRange b) where
  -- another record in the place of channel m's
  set-ranged : (m : ℕ) (c : Channel) → ChannelInRange c → InRange (with_channels (set b.channels m c) b)
  set-ranged m c p = record {
    six = length-set b.channels m c ∙ r.six;
    channels = λ j h. set_keeps ChannelInRange b.channels m c no_channel j (r.channels j h) p;
    pins = r.pins;
    virtuals = r.virtuals;
    core = r.core;
  }

  set_same : (m : ℕ) (c : Channel) → c ≡ channel_in b.channels m → with_channels (set b.channels m c) b ≡ b
  set_same m c h = ap (λ cs. with_channels cs b) (ap (set b.channels m) h ∙ set-get_or b.channels m no_channel)

  set-lost : (m : ℕ) (c : Channel) → m < 6 → c ≡ with_lost 0 (channel_in b.channels m) → with_channels (set b.channels m c) b ≡ lost_cleared m b
  unfolding lost_cleared
  set-lost m c k h = ap (λ d. with_channels (set b.channels m d) b) h ∙ sym (taken _ _ (lt-ltb m 6 k))

  module _ (e : Event) where
    -- the call counts only where the member is one of n and the fields fit
    checked-sound : (n : ℕ) (x : Reply Board) → (e.member < n → fits e ≡ true → SoundEvent b e x)
        → SoundEvent b e (checked (refusal_in n b.core.safety.writes e) b x)
    checked-sound n x = past-checks (SoundEvent b e) n _ e b x (λ m _ s. refusal m b s r refl)

    by-class : (k : Class) → SoundEvent b e (called_by k b e)
    unfolding called_by refusal_by passed_by
    by-class Step = refusal 3 b refl r refl
    by-class OnChannel =
        checked-sound 6 _ (λ m f.
        put_back (λ c. with_channels (set b.channels e.member c) b) _
        (channel-sound (channel_in b.channels e.member) (r.channels e.member m) _ e f)
        (set-ranged e.member) (set_same e.member) (λ c. set-lost e.member c m))
    by-class OnPin =
        checked-sound 48 _ (λ m f.
        put_back (λ q. with_pins (put_whole e.member q b.pins) b) _
        (whole-sound (whole_at b.pins e.member) (whole-ranged b.pins r.pins e.member m) e f)
        (λ q p. record { six = r.six; channels = r.channels; pins = put-whole-ranged b.pins r.pins e.member q p; virtuals = r.virtuals; core = r.core })
        (λ q n. absurd n) (λ q n. absurd n))
    by-class OnVirtual =
        checked-sound 6 _ (λ m f.
        put_back (λ o. with_virtuals (put_virtual e.member o b.virtuals) b) _
        (virtual-sound e (virtual_at b.virtuals e.member))
        (λ o p. record { six = r.six; channels = r.channels; pins = r.pins; virtuals = put-virtual-ranged e.member o b.virtuals; core = r.core })
        (λ o n. absurd n) (λ o n. absurd n))
    by-class OnBoard =
        checked-sound 1 _ (λ m f.
        put_back (λ k. with_core k b) _ (core-sound b.core r.core e f)
        (λ k p. record { six = r.six; channels = r.channels; pins = r.pins; virtuals = r.virtuals; core = p })
        (λ k h. ap (λ x. with_core x b) h) (λ k n. absurd n))
    by-class Unknown = refusal 2 b refl r refl

    pub respond-sound : SoundEvent b e (respond b e)
    unfolding respond respond_with
    respond-sound = either (SoundEvent b e) (is_step e) (done (stepped-ranged e.v e.w b r)) (by-class (class_of e.kind))
