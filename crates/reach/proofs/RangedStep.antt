-- A step keeps a channel in range.
-- Assumes nothing.
use mathlib.Core.Path.{◌≡◌, refl}
use mathlib.Core.Bool.{Bool, true, ◌&&◌}
use Prim.Native.Nat.{ℕ, ◌<◌}
use native.Mathlib.Omega.{arith}
use lib.Dec.{eqb, ltb}
use lib.IntN.{ℤ}
use borrow.Author.Tests.{lt-ltb}
use Rattle.words.specs.Bits.{flags}
use Rattle.words.proofs.BitLaws.{flag-lt, word_lt}
use Rattle.counter.specs.Samples.{samples}
use Rattle.counter.specs.Difference.{is_up, is_down, moved, carry_of}
use Rattle.counter.specs.Setters.{with_step}
use Rattle.counter.specs.Advance.{Inputs, look, counted, masked, next_of, recorded, settled, step, advance}
use Rattle.counter.specs.Repair.{is_reasons, is_kept, is_carry}
use Rattle.counter.specs.declared.Channel.{Channel}
use Rattle.counter.specs.declared.Seen.{Seen}
use Rattle.counter.specs.declared.Next.{Next}
use Rattle.counter.specs.declared.Capture.{Capture}
use Rattle.counter.proofs.Same.{ChannelInRange}
use Rattle.words.proofs.Cases.{either}
use Rattle.reach.proofs.RangedQueue.{captured-ranged}

pub flags-low : (a b c d : Bool) → flags a b c d < 16
flags-low a b c d = omega (arith, flag-lt a, flag-lt b, flag-lt c, flag-lt d)

pub samples-kept : (a b x e : Bool) → is_kept (samples a b x e) ≡ true
samples-kept a b x e = lt-ltb (samples a b x e) 16 (flags-low a b x e)

-- ---- what a step makes of the small fields

carry-ranged : (n : ℕ) (d : ℤ) → is_carry (carry_of n d) ≡ true
carry-ranged n d =
    let P : ℤ → Type 0 = λ z. is_carry z ≡ true in
    either P (is_up d && ltb (moved n d) n) refl (either P (is_down d && ltb n (moved n d)) refl refl)

record NextInRange (n : Next) : Type 0 where
  caught : is_reasons n.caught ≡ true
  carry : is_carry n.carry ≡ true

next-ranged : (now : ℕ) (seen : Seen) (c : Channel) → NextInRange (next_of now seen c)
unfolding next_of masked counted
next-ranged now seen c = record { caught = lt-ltb _ _ (word_lt 9 _); carry = carry-ranged c.count seen.d }

-- ---- the record with them

moved_on : (c : Channel) → ChannelInRange c → (n : ℕ) (d : ℤ) (a s x : Bool) (k : ℕ) → is_carry d ≡ true → is_kept k ≡ true → ChannelInRange (with_step n d a s x k c)
moved_on c r n d a s x k h b = record { mode = r.mode; route = r.route; mask = r.mask; kept = b; carry = h; reasons = r.reasons; held = r.held }

module _ (c : Channel) (r : ChannelInRange c) where
  recorded-ranged : (timestamp : ℕ) (n : Next) → NextInRange n → ChannelInRange (recorded timestamp n c).channel
  recorded-ranged timestamp n q =
      either (λ (told : Capture). ChannelInRange told.channel) (eqb n.caught 0) r (captured-ranged c r n.seen timestamp n.caught q.caught)

  settled-ranged : (now timestamp : ℕ) (n : Next) → is_kept now ≡ true → NextInRange n → ChannelInRange (settled now timestamp n c)
  unfolding settled
  settled-ranged now timestamp n b q = moved_on _ (recorded-ranged timestamp n q) n.count n.carry n.armed n.second _ now q.carry b

  pub advance-ranged : (i : Inputs) → is_kept i.now ≡ true → ChannelInRange (advance i c)
  unfolding advance step
  advance-ranged i b = settled-ranged i.now i.timestamp _ b (next-ranged i.now (look i.now i.carried i.rises c) c)
