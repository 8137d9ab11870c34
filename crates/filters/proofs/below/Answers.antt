-- `filters::below` meets its contract.
-- Assumes nothing.
use mathlib.Core.Path.{◌∙◌}
use borrow.Author.Rules.{rules}
use borrow.Author.Tests.{tests}
use Rattle.std.proofs.lemmas.Iterator.{YieldsList-from_slice, YieldsList-from_zip}
use Rattle.std.proofs.lemmas.Iterator.Consumers.{fold_from_yields_List}
use Rattle.filters.proofs.Folds.{lower, lower-all}
use Rattle.filters.proofs.below.Goals as goal

pub returns : goal.returns
returns c =
    let x = c.args.x in
    let y = c.args.y in
    fold_from_yields_List _ lower 0 _ c.fold.ensures.ran (YieldsList-from_zip (YieldsList-from_slice x cc) (YieldsList-from_slice y cc)) (λ a e b q k. search (rules, tests))
    ∙ lower-all x y (search rules) (search rules)
