-- `counter::difference::clock` meets its contract.
-- Assumes nothing.
use Rattle.std.proofs.Common.{◌≡◌, ℕ, zero, suc, ◌<◌, refl, arith, to_z-of_z, lt-ltb, ne_eqb}
use Rattle.counter.specs.Difference.{clocked, errs}
use Rattle.counter.proofs.Signed.{back}
use Rattle.counter.proofs.Turns.{unit_is, sign_is}
use Rattle.counter.proofs.difference.clock.Goals as goal

-- the last arm: K is none of the numbers before
last : (k : ℕ) → (k ≡ 0 → ⊥) → (k ≡ 1 → ⊥) → (k ≡ 2 → ⊥) → (k ≡ 3 → ⊥) → (k ≡ 4 → ⊥) → 4 < k
last zero n₀ n₁ n₂ n₃ n₄ = absurd (n₀ refl)
last (suc zero) n₀ n₁ n₂ n₃ n₄ = absurd (n₁ refl)
last (suc (suc zero)) n₀ n₁ n₂ n₃ n₄ = absurd (n₂ refl)
last (suc (suc (suc zero))) n₀ n₁ n₂ n₃ n₄ = absurd (n₃ refl)
last (suc (suc (suc (suc zero)))) n₀ n₁ n₂ n₃ n₄ = absurd (n₄ refl)
last (suc (suc (suc (suc (suc k))))) n₀ n₁ n₂ n₃ n₄ = omega arith

pub returns-in-0 : goal.returns-in-0
unfolding clocked errs
returns-in-0 c = let u = c.from in
    rw (back u.result u.type_inv, u.ensures, unit_is, c.line_a-in-0.ensures, c.line_a.ensures, c.in-0.is)

pub returns-in-1 : goal.returns-in-1
unfolding clocked errs
returns-in-1 c = let u = c.from-in-1 in
    rw (back u.result u.type_inv, u.ensures, unit_is, c.line_a-in-1-2.ensures, c.line_a-in-1.ensures, c.in-1.is)

pub returns-in-2 : goal.returns-in-2
unfolding clocked errs
returns-in-2 c = let u = c.from-in-2 in
    rw (back u.result u.type_inv, u.ensures, unit_is, c.in-2.is)

pub returns-in-3 : goal.returns-in-3
unfolding clocked errs
returns-in-3 c = rw c.in-3.is

pub returns-in-4 : goal.returns-in-4
unfolding clocked errs
returns-in-4 c = let s = c.signum in
    rw (back s.result s.type_inv, s.ensures.value, to_z-of_z c.ranges.carried, sign_is, c.in-4.is)

pub returns-in_default : goal.returns-in_default
unfolding clocked errs
returns-in_default c = let r₄ = c.in_default.in_default-own.rest in
    let r₃ = r₄.0 in
    let r₂ = r₃.0 in
    let r₁ = r₂.0 in
    let r₀ = r₁.0 in
    let quadrature = last c.args.k r₀.1 r₁.1 r₂.1 r₃.1 r₄.1 in
    rw (c.quadrature.ensures, ne_eqb _ _ r₀.1, ne_eqb _ _ r₁.1, ne_eqb _ _ r₂.1, ne_eqb _ _ r₃.1, ne_eqb _ _ r₄.1, lt-ltb _ _ quadrature)
