-- What happens to a queue and a lost count is booked: a capture, and a step.
-- Assumes nothing.
use mathlib.Core.Path.{◌≡◌, refl}
use mathlib.Core.Bool.{Bool, true, false, not, cond, ◌&&◌}
use Prim.Native.Nat.{ℕ, ◌+◌, ◌-◌, ◌^◌, ◌≤◌, ◌<◌}
use native.Mathlib.Omega.{arith}
use lib.Dec.{eqb, ltb}
use borrow.Author.Tests.{ltb-false}
use Rattle.words.specs.Bits.{flag}
use Rattle.words.proofs.Cases.{tested}
use Rattle.counter.specs.Queue.{captured}
use Rattle.counter.specs.Setters.{with_lost}
use Rattle.counter.specs.Advance.{Inputs, look, next_of, recorded, settled, step, advance}
use Rattle.counter.specs.declared.Channel.{Channel}
use Rattle.counter.specs.declared.Next.{Next}
use Rattle.counter.specs.declared.Capture.{Capture}
use Rattle.account.specs.Counts.{is_full, reasons_in, captures}
use Rattle.account.proofs.Captures.{caught}

-- between the records c and d of a channel m captures were made, h entries handed out and r lost captures reported, and of x captures no number
-- is left
pub record Booked (c : Channel) (m h r x : ℕ) (d : Channel) : Type 0 where
  pub sum : c.held + c.lost + m ≡ h + r + x + (d.held + d.lost)
  pub bound : d.lost ≤ c.lost + m
  pub none : c.lost + m < 2 ^ 32 → x ≡ 0

-- one after the other
pub joined : {c d f : Channel} {m h r x n k s y : ℕ} → Booked c m h r x d → Booked d n k s y f → Booked c (m + n) (h + k) (r + s) (x + y) f
joined p q = record {
  sum = omega (arith, p.sum, q.sum);
  bound = omega (arith, p.bound, q.bound);
  none = λ l. omega (arith, p.none (omega arith), q.none (omega (arith, p.bound)));
}

-- ---- queue and lost count stay as they are

pub record Same (c d : Channel) : Type 0 where
  pub held : d.held ≡ c.held
  pub lost : d.lost ≡ c.lost

pub same : {c : Channel} → Same c c
same = record { held = refl; lost = refl }

pub still : {c d : Channel} → Same c d → Booked c 0 0 0 0 d
still s = record { sum = omega (arith, s.held, s.lost); bound = omega (arith, s.lost); none = λ l. refl }

-- ---- a capture

module _ (c : Channel) where
  -- with sixteen held
  lost : ltb c.held 16 ≡ false → Booked c 1 0 0 (flag (is_full c)) (with_lost (cond (ltb c.lost (2 ^ 32 - 1)) (c.lost + 1) c.lost) c)
  lost h = go (ltb c.lost (2 ^ 32 - 1)) refl
    where
      go : (t : Bool) → ltb c.lost (2 ^ 32 - 1) ≡ t
          → Booked c 1 0 0 (flag (not (ltb c.held 16) && not t)) (with_lost (cond t (c.lost + 1) c.lost) c)
      go true u = rw h (record { sum = omega arith; bound = omega arith; none = λ l. refl })
      go false u = rw h (record { sum = omega arith; bound = omega arith; none = λ l. absurd (omega (arith, ltb-false c.lost (2 ^ 32 - 1) u)) })

  pub captured-booked : (n t q : ℕ) → Booked c 1 0 0 (flag (is_full c)) (captured n t q c).channel
  unfolding captured
  captured-booked n t q =
      tested (λ (k : Capture). Booked c 1 0 0 (flag (is_full c)) k.channel) (ltb c.held 16)
      (λ h. rw h (record { sum = omega arith; bound = omega arith; none = λ l. refl })) lost

-- ---- a step

module _ (c : Channel) where
  recorded-booked : (timestamp : ℕ) (n : Next)
      → Booked c (flag (not (eqb n.caught 0))) 0 0 (flag (not (eqb n.caught 0) && is_full c)) (recorded timestamp n c).channel
  recorded-booked timestamp n = go (eqb n.caught 0)
    where
      go : (t : Bool)
          → Booked c (flag (not t)) 0 0 (flag (not t && is_full c)) (cond t (record { channel = c; stored = false }) (captured n.seen timestamp n.caught c)).channel
      go true = still same
      go false = captured-booked c n.seen timestamp n.caught

  settled-booked : (now timestamp : ℕ) (n : Next)
      → Booked c (flag (not (eqb n.caught 0))) 0 0 (flag (not (eqb n.caught 0) && is_full c)) (settled now timestamp n c)
  unfolding settled
  settled-booked now timestamp n =
      let b = recorded-booked timestamp n in
      record { sum = b.sum; bound = b.bound; none = b.none }

  pub advance-booked : (i : Inputs) → Booked c (flag (captures i c)) 0 0 (flag (captures i c && is_full c)) (advance i c)
  unfolding advance step next_of reasons_in
  advance-booked i = rw (← caught i c) (settled-booked i.now i.timestamp (next_of i.now (look i.now i.carried i.rises c) c))
