-- `words::are_below` meets its contract.
-- Assumes nothing.
use Rattle.std.proofs.Common.{rules, true, ◌&&◌, ◌∙◌}
use borrow.Author.Tests.{tests}
use Rattle.std.specs.Ordering.{partial_lt}
use Rattle.std.proofs.lemmas.Iterator.{YieldsList-from_slice}
use Rattle.std.proofs.lemmas.Iterator.Consumers.{fold_from_yields_List}
use Rattle.words.proofs.Arrays.{fold_all}
use Rattle.words.proofs.are_below.Goals as goal

pub returns : goal.returns
returns g c =
    let low = λ (x : g.row.T.Denot). partial_lt g.T.PartialOrd.partial_cmp x c.args.limit in
    fold_from_yields_List _ (λ b x. b && low x) true _ c.fold.ensures.ran (YieldsList-from_slice c.args.values.now cc) (λ a x b q k. search (rules, tests))
    ∙ fold_all low c.args.values.now
