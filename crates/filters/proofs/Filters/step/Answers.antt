-- `filters::Filters::step` meets its contract. Each way is told by the word of the pins that wait on, which is 0 where no pin with a filter differs.
-- Assumes nothing.
use mathlib.Core.Path.{◌≡◌, ap, ap₂, sym, ◌∙◌}
use mathlib.Core.Bool.{not, ◌&&◌, beq}
use Prim.Native.Nat.{ℕ, ◌<◌}
use lib.Dec.{ltb}
use Rattle.words.specs.Bits.{bit, word}
use Rattle.words.proofs.BitLaws.{bit_word, bit-none}
use Rattle.filters.specs.Planes.{number_at, planes}
use Rattle.filters.specs.Filters.{filtering_at, filtered}
use Rattle.filters.specs.declared.Filtered.{Filtered}
use Rattle.filters.proofs.PlaneLaws.{zeros, all-zero}
use Rattle.filters.proofs.StepLaws.{waits-filtered, both_at, filtered-by, filtered-quiet}
use borrow.Author.Rules.{rules}
use Rattle.filters.proofs.Filters.step.Goals as goal
use Rattle.filters.proofs.Filters.step.Lts as lts
use Rattle.filters.proofs.Filters.step.Reads as reads
use Rattle.filters.proofs.Filters.step.Tie as tie

-- ---- the pins with a filter that differ
module _ (b : lts.After-both tie.the-claims reads.Pre reads.Post) where
  differing-at : (p : ℕ) → p < 48 → bit b.both-differing.result p ≡ (not (beq (bit b.args.raw p) (bit b.args.level p)) && ltb 0 (number_at b.args.self.filter p))
  differing-at = both_at _ _ b.differ.ensures b.above_zero.ensures b.both-differing.ensures

  -- there is none
  quiet : b.both-differing.result ≡ 0
      → ◌≡◌ {A = Filtered} (record { filters = record { filter = b.args.self.filter; wait = planes (λ p. 0) }; level = word 48 (bit b.args.raw) })
      (filtered b.args.raw b.args.level b.args.self)
  quiet z = filtered-quiet b.args.self b.args.raw b.args.level (λ p h. sym (differing-at p h) ∙ ap (λ v. bit v p) z ∙ bit-none p)

pub returns-then-differing-ne0 : goal.returns-then-differing-ne0
unfolding filtering_at
returns-then-differing-ne0 c =
    let b = c.before.before.before.before.before.before.before.before in
    let a = b.args in
    filtered-by a.self a.raw a.level c.both-on.result _ _
    (λ p h.
    let below = ap (λ v. bit v p) c.below.ensures ∙ bit_word 48 _ p h in
    ap (λ v. bit v p) c.both-on.ensures ∙ bit_word 48 _ p h ∙ ap₂ ◌&&◌ (differing-at b p h) below
    ∙ sym (waits-filtered (not (beq (bit a.raw p) (bit a.level p))) (number_at a.self.wait p) (number_at a.self.filter p)))
    c.counted-self.ensures c.select.ensures

pub returns-then-are_zero : goal.returns-then-are_zero
returns-then-are_zero c =
    let b = c.before.before.before.before.before in
    let a = b.args in
    let none : a.self.wait ≡ planes (λ p. 0) = all-zero a.self.wait (search rules) (sym c.are_zero.ensures ∙ c.if-are_zero.true) in
    (λ i. record { filters = record { filter = a.self.filter; wait = none i }; level = c.cut.ensures i }) ∙ quiet b c.if-differing-ne0.false

pub returns : goal.returns
returns c =
    let b = c.before.before.before.before.before.before in
    rw (c.cut-2.ensures, ← zeros) (quiet b c.if-differing-ne0.false)
