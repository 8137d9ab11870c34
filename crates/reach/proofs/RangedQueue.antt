-- Which fields of a channel have no range, and that a capture and its reading keep a channel in range.
-- Assumes nothing.
use mathlib.Core.Path.{◌≡◌, refl, ◌∙◌}
use mathlib.Core.Bool.{Bool, true}
use mathlib.Core.List.{List}
use Prim.Native.Nat.{ℕ, suc, ◌+◌, ◌-◌}
use native.Mathlib.Omega.{arith}
use borrow.Author.Tests.{ltb-true, lt-ltb}
use lib.Dec.{ltb}
use lib.ListN.{get_or, length-set, length-append}
use Rattle.counter.specs.Setters.{with_queue}
use Rattle.counter.specs.Queue.{captured, popped}
use Rattle.counter.specs.Repair.{is_reasons, is_held}
use Rattle.counter.specs.declared.Channel.{Channel}
use Rattle.counter.specs.declared.Capture.{Capture}
use Rattle.counter.proofs.Same.{ChannelInRange}
use Rattle.words.proofs.Cases.{tested}
use Rattle.words.proofs.Every.{AllGood}
use Rattle.words.proofs.Tables.{length-tab, tab-keeps, get_or-end, set_keeps}

-- the fields with no range may have any value
pub free : {c : Channel} {preloads compares counts timestamps : List ℕ} {count lost : ℕ} {running armed second extout : Bool} → ChannelInRange c
    → ChannelInRange (record {
      mode = c.mode;
      preloads = preloads;
      compares = compares;
      route = c.route;
      mask = c.mask;
      count = count;
      running = running;
      armed = armed;
      second = second;
      kept = c.kept;
      extout = extout;
      carry = c.carry;
      counts = counts;
      timestamps = timestamps;
      reasons = c.reasons;
      held = c.held;
      lost = lost;
    })
free r = record { mode = r.mode; route = r.route; mask = r.mask; kept = r.kept; carry = r.carry; reasons = r.reasons; held = r.held }

module _ (c : Channel) (r : ChannelInRange c) where
  queued : (ns ts rs : List ℕ) (h : ℕ) → AllGood is_reasons 16 rs → is_held h ≡ true → ChannelInRange (with_queue ns ts rs h c)
  queued ns ts rs h k b = record { mode = r.mode; route = r.route; mask = r.mask; kept = r.kept; carry = r.carry; reasons = k; held = b }

  pub captured-ranged : (n t q : ℕ) → is_reasons q ≡ true → ChannelInRange (captured n t q c).channel
  unfolding captured
  captured-ranged n t q b =
      tested (λ (told : Capture). ChannelInRange told.channel) (ltb c.held 16)
      (λ h. queued _ _ _ _ (record {
        places = length-set c.reasons c.held q ∙ r.reasons.places;
        each = λ i k. set_keeps (λ n. is_reasons n ≡ true) c.reasons c.held q 0 i (r.reasons.each i k) b;
      })
      (lt-ltb (c.held + 1) 17 (omega (arith, ltb-true c.held 16 h))))
      (λ h. free r)

  pub popped-ranged : ChannelInRange (popped c)
  unfolding popped
  popped-ranged =
      queued _ _ _ _ (record {
        places = simp (length-append, length-tab);
        each = λ i k. rw get_or-end (tab-keeps (λ n. is_reasons n ≡ true) 15 (λ i. get_or c.reasons (suc i) 0) 0 (λ i j. r.reasons.each (suc i) (omega arith)) refl i);
      })
      (lt-ltb (c.held - 1) 17 (omega (arith, ltb-true c.held 17 r.held)))
