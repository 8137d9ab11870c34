-- The calls of a pin and the parts of a step keep the pins in range.
-- Assumes nothing.
use mathlib.Core.Path.{◌≡◌}
use mathlib.Core.Bool.{Bool, true, false, cond}
use mathlib.Core.List.{List}
use Prim.Native.Nat.{ℕ, ◌<◌}
use lib.Dec.{eqb}
use borrow.Author.Tests.{ltb-true}
use Rattle.words.specs.Bits.{bit}
use Rattle.words.proofs.BitLaws.{bit_word}
use Rattle.words.proofs.Every.{AllGood}
use Rattle.filters.specs.Filters.{filtered, put_filter}
use Rattle.ports.specs.Pins.{number, pin_at, put_pin, WholePin, whole_at, put_whole, sensed, is_source, driven, is_pin_word}
use Rattle.ports.specs.declared.Pin.{Pin}
use Rattle.ports.specs.declared.Pins.{Pins}
use Rattle.ports.proofs.Planes.{held}
use Rattle.ports.proofs.Same.{PinsInRange, pin-word, plane-words}
use Rattle.calls.specs.Fields.{limits, limit, fits}
use Rattle.calls.specs.PinCalls.{pin_call, with_pin, whole_call}
use Rattle.calls.specs.declared.Event.{Event}
use Rattle.words.proofs.Cases.{tested, either}
use Rattle.reach.proofs.Fitting.{below-limit}
use Rattle.reach.proofs.Sound.{Sound, Never, done, put_back}

-- ---- one pin

pub record PinInRange (q : Pin) : Type 0 where
  pub source : is_source q.source ≡ true

pub pin-sound : (q : Pin) → PinInRange q → (e : Event) → fits e ≡ true → Sound PinInRange Never Never (pin_call e q)
unfolding pin_call limit limits
pin-sound q r e f =
    let S = Sound PinInRange Never Never in
    let k = e.kind in
    tested S (eqb k 13) (λ h. done (record { source = below-limit e f 13 h })) (λ _.
    either S (eqb k 14) (done (record { source = r.source }))
    (either S (eqb k 15) (done (record { source = r.source }))
    (either S (eqb k 16) (done (record { source = r.source }))
    (done r))))

-- with its filter, which planes hold whatever it is
pub record WholeInRange (q : WholePin) : Type 0 where
  pub pin : PinInRange q.pin

pub whole-sound : (q : WholePin) → WholeInRange q → (e : Event) → fits e ≡ true → Sound WholeInRange Never Never (whole_call e q)
unfolding whole_call
whole-sound q r e f =
    either (Sound WholeInRange Never Never) (eqb e.kind 30) (done (record { pin = r.pin }))
    (put_back (λ p. with_pin p q) _ (pin-sound q.pin r.pin e f) (λ p s. record { pin = s }) (λ p n. n) (λ p n. n))

-- ---- all pins

-- the levels, the driven values and the waits may be any 48 bits
free : {x : Pins} {level driven : ℕ} {wait : List ℕ} → PinsInRange x → is_pin_word level ≡ true → is_pin_word driven ≡ true → AllGood is_pin_word 16 wait
    → PinsInRange (record {
      level = level;
      driven = driven;
      own = x.own;
      safedata = x.safedata;
      safeenable = x.safeenable;
      source0 = x.source0;
      source1 = x.source1;
      source2 = x.source2;
      filters = record { filter = x.filters.filter; wait = wait };
    })
unfolding pin_at
free r l d w = record {
  level = l;
  driven = d;
  own = r.own;
  safedata = r.safedata;
  safeenable = r.safeenable;
  source0 = r.source0;
  source1 = r.source1;
  source2 = r.source2;
  source = r.source;
  filter = r.filter;
  wait = w;
}

-- a source number in its range, or pin i's, is in range as it is held
chosen : (t : Bool) (n : ℕ) (x : Pins) (i : ℕ) → is_source n ≡ true → is_source (pin_at x i).source ≡ true
    → is_source (number (cond t (bit n 0) (bit x.source0 i)) (cond t (bit n 1) (bit x.source1 i)) (cond t (bit n 2) (bit x.source2 i))) ≡ true
unfolding pin_at
chosen true n x i h k = rw (held n (ltb-true n 7 h)) h
chosen false n x i h k = k

module _ (x : Pins) (r : PinsInRange x) where
  pub whole-ranged : (p : ℕ) → p < 48 → WholeInRange (whole_at x p)
  unfolding whole_at
  whole-ranged p h = record { pin = record { source = r.source p h } }

  pub put-whole-ranged : (p : ℕ) (q : WholePin) → WholeInRange q → PinsInRange (put_whole p q x)
  unfolding pin_at put_pin put_whole put_filter
  put-whole-ranged p q s = record {
    level = pin-word _;
    driven = pin-word _;
    own = pin-word _;
    safedata = pin-word _;
    safeenable = pin-word _;
    source0 = pin-word _;
    source1 = pin-word _;
    source2 = pin-word _;
    source = λ i h. simp bit_word (chosen (eqb i p) q.pin.source x i s.pin.source (r.source i h));
    filter = plane-words _;
    wait = plane-words _;
  }

  pub sensed-ranged : (w : ℕ) → PinsInRange (sensed w x)
  unfolding sensed filtered
  sensed-ranged w = free r (pin-word _) r.driven (plane-words _)

  pub driven-ranged : (outs : ℕ) (safemode : Bool) → PinsInRange (driven outs safemode x)
  unfolding driven
  driven-ranged outs safemode = free r r.level (pin-word _) r.wait
