-- `filters::above_zero` meets its contract.
-- Assumes nothing.
use mathlib.Core.Path.{◌∙◌}
use borrow.Author.Rules.{rules}
use borrow.Author.Tests.{tests}
use Rattle.std.proofs.lemmas.Iterator.{YieldsList-from_slice}
use Rattle.std.proofs.lemmas.Iterator.Consumers.{fold_from_yields_List}
use Rattle.filters.proofs.Folds.{above, above-all}
use Rattle.filters.proofs.above_zero.Goals as goal

pub returns : goal.returns
returns c =
    let x = c.args.x in
    fold_from_yields_List _ above 0 _ c.fold.ensures.ran (YieldsList-from_slice x cc) (λ a y b q k. search (rules, tests)) ∙ above-all x (search rules)
