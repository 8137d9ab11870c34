-- `textin::whole::check` meets its contract.
-- Assumes nothing.
use Rattle.std.proofs.Common.{◌≡◌, sym, ◌∙◌, rules}
use Rattle.std.specs.Prelude.{fold}
use Rattle.std.specs.List.{slice_split}
use Rattle.std.proofs.lemmas.Iterator.Splits.{YieldsList-from_slice_split}
use Rattle.std.proofs.lemmas.Iterator.Consumers.{fold_from_yields_List}
use Rattle.scan.specs.declared.Between.TheVariants.{Lines}
use Rattle.scan.specs.Parts.{between}
use Rattle.scan.proofs.Parts.{parts-split, over-fold}
use Rattle.textin.specs.Texts.{lines_of, add_line, no_text, checked}
use Rattle.textin.proofs.whole.check.Goals as goal

pub returns : goal.returns
unfolding checked lines_of
returns c =
    let text = c.args.text.now in
    let e : c.fold.result ≡ fold add_line c.new.result (slice_split (between Lines) text) =
    fold_from_yields_List _ add_line c.new.result _ c.fold.ensures.ran
    (YieldsList-from_slice_split _ (between Lines) text c.split.ensures.rest c.split.ensures.done c.split.ensures.closure (λ x b q k. search rules))
    (λ a x b q k. search rules) in
    e ∙ rw (c.new.ensures, parts-split (between Lines) text) (sym (over-fold add_line no_text (slice_split (between Lines) text)))
