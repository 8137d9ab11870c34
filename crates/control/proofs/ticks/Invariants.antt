-- `control::ticks` meets its contract.
-- Assumes nothing.
use Rattle.std.proofs.Common.{◌≡◌, ℕ, ◌<◌, ◌≤◌, true, false, cond, ltb}
use Rattle.words.specs.Bits.{word}
use Rattle.control.specs.Clock.{tick}
use Rattle.control.proofs.ticks.Given as goal

abbrev pub from : ℕ → ℕ
from x = word 8 (λ i. cond (ltb i x) false true)

abbrev pub High : ℕ → ℕ → Type 0
High p x = (i : ℕ) → x ≤ i → i < 8 → tick p i ≡ true

abbrev pub invariant-loop-x : goal.invariant-loop-x
invariant-loop-x l = (l.x ≤ 8) × (l.found ≡ from l.x) × High l.p l.x

abbrev pub decreases-loop-x : goal.decreases-loop-x
decreases-loop-x l = l.x
