-- `filters::are_zero` meets its contract.
-- Assumes nothing.
use mathlib.Core.Path.{◌∙◌}
use mathlib.Core.Bool.{true, ◌&&◌}
use lib.Dec.{eqb}
use borrow.Author.Rules.{rules}
use borrow.Author.Tests.{tests}
use Rattle.std.proofs.lemmas.Iterator.{YieldsList-from_slice}
use Rattle.std.proofs.lemmas.Iterator.Consumers.{fold_from_yields_List}
use Rattle.words.proofs.Arrays.{fold_all, every_is}
use Rattle.filters.proofs.are_zero.Goals as goal

pub returns : goal.returns
returns c =
    let x = c.args.x in
    fold_from_yields_List _ (λ b n. b && eqb n 0) true _ c.fold.ensures.ran (YieldsList-from_slice x cc) (λ a n b q k. search (rules, tests))
    ∙ fold_all (λ n. eqb n 0) x ∙ every_is (λ n. eqb n 0) 16 x (search rules)
