-- `textin::reader::read_words` meets its contract.
-- Assumes nothing.
use Rattle.std.proofs.Common.{ℕ, List, ap, ◌∙◌, rules}
use Rattle.std.proofs.lemmas.Iterator.Splits.{YieldsList-from_slice_split}
use Rattle.std.proofs.lemmas.Iterator.Consumers.{YieldsList-at}
use Rattle.scan.specs.declared.Between.TheVariants.{Words}
use Rattle.scan.specs.Parts.{between, over}
use Rattle.scan.proofs.Parts.{parts-split}
use Rattle.textin.specs.Readings.{starting, take_word}
use Rattle.textin.proofs.Yields.{all-yielded, over_parts-more}
use Rattle.textin.proofs.reader.read_words.Goals as goal

pub loop-w-init : goal.loop-w-init
unfolding over
loop-w-init c = c.new-s.ensures

pub loop-w-preserved : goal.loop-w-preserved
loop-w-preserved c = rw (over_parts-more take_word starting c.loop-w.yielded c.in-Some.w, ← c.loop-w.invariant) c.take_word-s.ensures

pub returns : goal.returns
returns c =
    let words = c.args.words.now in
    let turn = c.loop-w in
    let end = all-yielded turn.yielded _ turn.yielded_by _ _ c.in-None.is c.next.ensures.steps
    (YieldsList-at c.into_iter-w-iterator.ensures.into_iter_gives
    (YieldsList-from_slice_split _ (between Words) words c.split-w-items.ensures.rest c.split-w-items.ensures.done c.split-w-items.ensures.closure (λ x b q k. search rules))) in
    turn.invariant ∙ rw (parts-split (between Words) words) (ap (λ (ws : List (List ℕ)). over take_word starting ws) end)
