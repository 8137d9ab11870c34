-- `filters::put_number` meets its contract.
-- Assumes nothing.
use mathlib.Core.Path.{ap, sym, ◌∙◌}
use mathlib.Core.Bool.{cond}
use lib.Dec.{eqb}
use lib.ListN.{get_or}
use borrow.Author.Rules.{rules}
use Rattle.words.specs.Bits.{bit, put_bit}
use Rattle.words.proofs.Arrays.{from_fn_is}
use Rattle.words.proofs.BitLaws.{word-ext}
use Rattle.words.proofs.Tables.{tab-ext}
use Rattle.filters.specs.Planes.{number_at, planes}
use Rattle.filters.proofs.PlaneLaws.{bit-number, bit-chosen}
use Rattle.filters.proofs.put_number.Goals as goal

pub returns : goal.returns
unfolding planes
returns c =
    let a = c.args in
    from_fn_is _ (λ j. put_bit 48 a.p (bit a.n j) (get_or a.x j 0)) 0 c.from_fn.ensures.items (λ j y q called. search rules)
    ∙ tab-ext 16 _ _ (λ j here.
    word-ext 48 _ _ (λ q h. ap (cond (eqb q a.p) (bit a.n j)) (sym (bit-number a.x q j here)) ∙ bit-chosen (eqb q a.p) a.n (number_at a.x q) j))
