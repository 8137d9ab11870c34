-- `filters::counted` meets its contract. The invariant: the first j planes are made, and the carry is that into plane j.
-- Assumes nothing.
use mathlib.Core.Path.{◌≡◌}
use mathlib.Core.Bool.{cond}
use mathlib.Core.List.{List, ◌++◌}
use Prim.Native.Nat.{ℕ, ◌+◌, ◌-◌, ◌≤◌}
use lib.ListN.{drop}
use Rattle.words.specs.Bits.{bit, word}
use Rattle.words.specs.Table.{tab}
use Rattle.filters.specs.Planes.{number_at, plane_of}
use Rattle.filters.proofs.Numbers.{carried}
use Rattle.filters.proofs.counted.Given as goal

abbrev pub numbers : ℕ → List ℕ → ℕ → ℕ
numbers on x p = cond (bit on p) (number_at x p + 1) 0

abbrev pub invariant-loop-j : goal.invariant-loop-j
invariant-loop-j l = (l.j ≤ 16) × (l.carry ≡ word 48 (λ p. carried (number_at l.x p) (bit l.on p) l.j)) × (l.r ≡ tab l.j (plane_of (numbers l.on l.x)) ++ drop l.j l.x)

abbrev pub decreases-loop-j : goal.decreases-loop-j
decreases-loop-j l = 16 - l.j
