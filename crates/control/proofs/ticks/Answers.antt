-- `control::ticks` meets its contract.
-- Assumes nothing.
use Rattle.std.proofs.Common.{◌≡◌, ℕ, suc, ◌-◌, ◌*◌, ◌%◌, ◌^◌, ◌<◌, true, false, cond, ltb, sym, refl, ap, ◌∙◌, ⊎_elim, eq-or-lt_of_le, arith, ltb-false, ltb-true}
use borrow.Author.Tests.{not-true, not-false}
use lib.Bits.{bit_or}
use Rattle.words.specs.Bits.{word}
use Rattle.words.specs.Table.{tab}
use Rattle.words.proofs.BitLaws.{word-ext}
use Rattle.words.proofs.Cases.{tested}
use Rattle.words.proofs.Tables.{tab-at}
use Rattle.control.specs.Clock.{tick, ticks}
use Rattle.control.proofs.Divisors.{low-before}
use Rattle.control.proofs.ticks.Invariants.{from, High}
use Rattle.control.proofs.ticks.Goals as goal

-- one bit more, at every place by computing
one_more : (x : ℕ) → x < 8 → bit_or (from (suc x)) (1 * 2 ^ x % 2 ^ 64) ≡ from x
unfolding tab word
one_more = tab-at 8 (λ x. bit_or (from (suc x)) (1 * 2 ^ x % 2 ^ 64)) from refl

-- and one tick more that is high
one-higher : (p x : ℕ) → tick p x ≡ true → High p (suc x) → High p x
one-higher p x e high i s h = ⊎_elim (λ k. ap (tick p) (sym k) ∙ e) (λ k. high i k h) (eq-or-lt_of_le s)

-- these are all, where those before x are low
all_found : (p x : ℕ) → High p x → ((i : ℕ) → i < x → tick p i ≡ false) → from x ≡ ticks p
unfolding ticks
all_found p x high low =
    word-ext 8 (λ i. cond (ltb i x) false true) (tick p)
    (λ i h. tested (λ t. t ≡ tick p i) (ltb i x) (λ e. sym (low i (ltb-true i x e))) (λ e. sym (high i (ltb-false i x e) h)))

pub loop-x-init : goal.loop-x-init
unfolding word
loop-x-init c = (omega arith, refl, λ i s h. absurd (omega arith))

pub returns-then-not-tick : goal.returns-then-not-tick
returns-then-not-tick c =
    let l = c.loop-x in
    let p = c.args.p in
    let low : tick p (l.x - 1) ≡ false = sym c.tick.ensures ∙ not-true _ c.if-not-tick.true-raw in
    l.invariant.1 ∙ all_found p l.x l.invariant.2 (λ i h. low-before p i (l.x - 1) (omega arith) (omega arith) low)

pub loop-x-preserved : goal.loop-x-preserved
loop-x-preserved c =
    let l = c.loop-x in
    let p = c.args.p in
    let x : ℕ = l.x - 1 in
    let e : l.x ≡ suc x = omega arith in
    let b : x < 8 = omega arith in
    let high : tick p x ≡ true = sym c.tick.ensures ∙ not-false _ c.if-not-tick.false-raw in (
      omega arith,
      ap (λ n. bit_or n (1 * 2 ^ x % 2 ^ 64)) (l.invariant.1 ∙ ap from e) ∙ one_more x b,
      one-higher p x high (λ i s h. l.invariant.2 i (omega arith) h),
    )

pub returns : goal.returns
returns c =
    let l = c.loop-x in
    let p = c.args.p in
    l.invariant.1 ∙ all_found p l.x l.invariant.2 (λ i h. absurd (omega arith))
