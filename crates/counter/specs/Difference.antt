-- Document 01, "A running channel": the difference d, what it makes of the count, and the carry.
-- Assumes nothing.
use Rattle.std.specs.Prelude.{◌≡◌, ℕ, ◌+◌, ◌-◌, ◌%◌, ◌^◌, ◌<◌, Bool, cond, not, ◌&&◌, ℤ, pos, negsuc, neg_ℤ, Option, Some, None, ◌==◌, int_lt, nat_lt}
use Rattle.counter.specs.Samples.{line_a}
use Rattle.counter.specs.Quadrature.{quadrature, both_changed, keeps}

abbrev pub is_up : ℤ → Bool
is_up d = int_lt (pos 0) d

abbrev pub is_down : ℤ → Bool
is_down d = int_lt d (pos 0)

abbrev pub sign : ℤ → ℤ
sign d = cond (is_up d) (pos 1) (cond (is_down d) (negsuc 0) (pos 0))

abbrev pub unit : Bool → ℤ
unit b = cond b (pos 1) (pos 0)

-- d by the clock K, before UD and the gates: the samples kept and present, whether the timestamp rises, the neighbour's carry
unfoldable pub clocked : ℕ → ℕ → ℕ → Bool → ℤ → ℤ
clocked k before now rises carried =
    cond (k == 0) (unit (not (line_a before) && line_a now))
    (cond (k == 1) (unit (line_a before && not (line_a now)))
    (cond (k == 2) (unit rises)
    (cond (k == 3) (pos 1)
    (cond (k == 4) (sign carried)
    (cond (keeps k before now) (quadrature before now) (pos 0))))))

-- a quadrature clock, K 5 to 7, sees an error
unfoldable pub errs : ℕ → ℕ → ℕ → Bool
errs k before now = nat_lt 4 k && both_changed before now

-- what the clock K gives: d, or none where it sees an error, which counts nothing
abbrev pub turned : ℕ → ℕ → ℕ → Bool → ℤ → Option ℤ
turned k before now rises carried = cond (errs k before now) None (Some (clocked k before now rises carried))

-- UD reverses the sign
abbrev pub reversed : Bool → ℤ → ℤ
reversed ud d = cond ud (neg_ℤ d) d

-- the count after d, wrapping at 2^32
abbrev pub moved : ℕ → ℤ → ℕ
moved n d = cond (is_up d) ((n + 1) % 2 ^ 32) (cond (is_down d) ((n + (2 ^ 32 - 1)) % 2 ^ 32) n)

-- the carry: +1 where counting up made the count smaller, −1 where counting down made it larger
abbrev pub carry_of : ℕ → ℤ → ℤ
carry_of n d = cond (is_up d && nat_lt (moved n d) n) (pos 1) (cond (is_down d && nat_lt n (moved n d)) (negsuc 0) (pos 0))

-- ---- the law of d

-- d takes the count n to `next`, with this carry
pub record Makes (n : ℕ) (d : ℤ) (next : ℕ) (carry : ℤ) : Type 0 where
  pub count : moved n d ≡ next
  pub over : carry_of n d ≡ carry

-- 0 leaves the count; +1 and −1 go to the next one and the one before, with no carry; the greatest count and 0 wrap, and the wrap is the carry
pub record LawOfD : Type 0 where
  pub still : (n : ℕ) → Makes n (pos 0) n (pos 0)
  pub up : (n : ℕ) → n < 2 ^ 32 - 1 → Makes n (pos 1) (n + 1) (pos 0)
  pub down : (n : ℕ) → 0 < n → n < 2 ^ 32 → Makes n (negsuc 0) (n - 1) (pos 0)
  pub wraps_up : Makes (2 ^ 32 - 1) (pos 1) 0 (pos 1)
  pub wraps_down : Makes 0 (negsuc 0) (2 ^ 32 - 1) (negsuc 0)
