-- The law of d: nothing at 0, and the carry exactly at the wrap.
-- Assumes nothing.
use Rattle.std.proofs.Common.{◌≡◌, ◌+◌, ◌-◌, ◌%◌, ◌^◌, ◌≤◌, refl, arith, le-ltb}
use Rattle.counter.specs.Difference.{LawOfD}

pub law-of-d : LawOfD
law-of-d = record {
  still = λ n. record { count = refl; over = refl };
  up = λ n h.
      let e : (n + 1) % 2 ^ 32 ≡ n + 1 = omega arith in
      let k : n ≤ (n + 1) % 2 ^ 32 = omega arith in
      record { count = e; over = rw (le-ltb _ _ k) };
  down = λ n p h.
      let e : (n + (2 ^ 32 - 1)) % 2 ^ 32 ≡ n - 1 = omega arith in
      let k : (n + (2 ^ 32 - 1)) % 2 ^ 32 ≤ n = omega arith in
      record { count = e; over = rw (le-ltb _ _ k) };
  wraps_up = record { count = refl; over = refl };
  wraps_down = record { count = refl; over = refl };
}
