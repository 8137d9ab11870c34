-- `control::expired_after` meets its contract.
-- Assumes nothing.
use Rattle.std.proofs.Common.{◌≡◌, ℕ, ◌+◌, Bool, true, false, cond, refl, arith, le-ltb}
use Rattle.std.specs.Int.{from_bool}
use Rattle.control.specs.Watchdog.{expired_after}
use Rattle.control.proofs.expired_after.Goals as goal

-- one more where a test holds
one_more : (n : ℕ) (t : Bool) → n + from_bool t ≡ cond t (n + 1) n
one_more n true = refl
one_more n false = omega arith

one : (t : Bool) → from_bool t ≡ cond t 1 0
one true = refl
one false = refl

pub returns-in-0 : goal.returns-in-0
unfolding expired_after
returns-in-0 c = rw (c.from.ensures, c.in-0.is) (one _)

pub returns-in-1 : goal.returns-in-1
unfolding expired_after
returns-in-1 c = rw (c.from-in-1.ensures, c.in-1.is) (one_more 1 _)

pub returns-in-2 : goal.returns-in-2
unfolding expired_after
returns-in-2 c = rw (c.from-in-2.ensures, c.in-2.is) (one_more 2 _)

pub returns-in_default : goal.returns-in_default
unfolding expired_after
returns-in_default c = rw (le-ltb c.args.expired 3 (omega arith))
