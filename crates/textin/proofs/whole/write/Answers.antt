-- `textin::whole::write` meets its contract.
-- Assumes nothing.
use Rattle.std.proofs.Common.{◌≡◌, ℕ, ◌+◌, ◌*◌, ◌≤◌, ◌++◌, ◌∷◌, List, [], length, refl, sym, ap, ◌∙◌, rules, arith}
use Rattle.std.specs.List.{slice_split}
use Rattle.std.proofs.lemmas.Iterator.Splits.{YieldsList-from_slice_split}
use Rattle.std.proofs.lemmas.Iterator.Consumers.{YieldsList-at}
use Rattle.buffers.specs.Pieces.{put}
use Rattle.buffers.proofs.Put.{put-none}
use Rattle.scan.specs.declared.Between.TheVariants.{Lines}
use Rattle.scan.specs.Parts.{between, over}
use Rattle.scan.proofs.Parts.{parts-split}
use Rattle.textin.specs.Texts.{lines_of, add_records, records_in}
use Rattle.textin.proofs.Texts.{length-added, added-put, added-bad, room_for, so_far, so-far-more}
use Rattle.textin.proofs.Yields.{front-yielded, next-yielded, all-yielded}
use Rattle.textin.proofs.whole.write.Goals as goal

pub loop-l-init : goal.loop-l-init
unfolding over
loop-l-init c = (refl, sym (put-none _ _), refl)

pub put_records-at-requires : goal.put_records-at-requires
unfolding records_in lines_of
put_records-at-requires c =
    let text = c.args.text.now in
    let turn = c.loop-l in
    let front = front-yielded turn.yielded _ turn.yielded_by
    (YieldsList-at c.into_iter-l-iterator.ensures.into_iter_gives
    (YieldsList-from_slice_split _ (between Lines) text c.split-l-items.ensures.rest c.split-l-items.ensures.done c.split-l-items.ensures.closure (λ x b q k. search rules))) in
    let here = next-yielded turn.yielded _ turn.yielded_by _ _ c.in-Some.l c.in-Some.is c.next.ensures.steps
    (YieldsList-at c.into_iter-l-iterator.ensures.into_iter_gives
    (YieldsList-from_slice_split _ (between Lines) text c.split-l-items.ensures.rest c.split-l-items.ensures.done c.split-l-items.ensures.closure (λ x b q k. search rules))) in
    let room = room_for _ (slice_split (between Lines) text) (length turn.yielded) c.in-Some.l.now c.in-Ok.line (sym c.read_line.ensures ∙ c.in-Ok.is) here.0 front here.1 in
    let all = rw (parts-split (between Lines) text) at c.requires in
    omega arith

pub loop-l-preserved : goal.loop-l-preserved
loop-l-preserved c =
    let inv = c.loop-l.invariant in
    let same : so_far (c.loop-l.yielded ++ (c.in-Some.l ∷ [])) ≡ so_far c.loop-l.yielded = so-far-more _ _ ∙ added-bad _ _ _ (sym c.read_line.ensures ∙ c.in_default.is) in
    (rw same inv.0, rw same inv.1, inv.2)

pub loop-l-preserved-in-Ok : goal.loop-l-preserved-in-Ok
unfolding records_in lines_of
loop-l-preserved-in-Ok c =
    let text = c.args.text.now in
    let turn = c.loop-l in
    let front = front-yielded turn.yielded _ turn.yielded_by
    (YieldsList-at c.into_iter-l-iterator.ensures.into_iter_gives
    (YieldsList-from_slice_split _ (between Lines) text c.split-l-items.ensures.rest c.split-l-items.ensures.done c.split-l-items.ensures.closure (λ x b q k. search rules))) in
    let here = next-yielded turn.yielded _ turn.yielded_by _ _ c.in-Some.l c.in-Some.is c.next.ensures.steps
    (YieldsList-at c.into_iter-l-iterator.ensures.into_iter_gives
    (YieldsList-from_slice_split _ (between Lines) text c.split-l-items.ensures.rest c.split-l-items.ensures.done c.split-l-items.ensures.closure (λ x b q k. search rules))) in
    let held = room_for _ (slice_split (between Lines) text) (length turn.yielded) c.in-Some.l.now c.in-Ok.line (sym c.read_line.ensures ∙ c.in-Ok.is) here.0 front here.1 in
    let all = rw (parts-split (between Lines) text) at c.requires in
    let inv = c.loop-l.invariant in
    let h = so_far c.loop-l.yielded in
    let s = sym c.read_line.ensures ∙ c.in-Ok.is in
    let done = c.put_records-at.ensures in
    let more : so_far (c.loop-l.yielded ++ (c.in-Some.l ∷ [])) ≡ add_records h c.in-Some.l.now = so-far-more _ _ in
    let room : c.loop-l.at + 16 * c.in-Ok.line.times ≤ length c.args.out.now = omega arith in
    let puts = added-put c.args.out.now h c.in-Some.l.now c.loop-l.at c.in-Ok.line s inv.0 room in
    (rw more (done.0 ∙ omega (arith, rw s at (length-added h c.in-Some.l.now))), rw more (done.1 ∙ rw inv.1 puts), omega arith)

pub returns : goal.returns
unfolding records_in lines_of
returns c =
    let text = c.args.text.now in
    let turn = c.loop-l in
    let end = all-yielded turn.yielded _ turn.yielded_by _ _ c.in-None.is c.next.ensures.steps
    (YieldsList-at c.into_iter-l-iterator.ensures.into_iter_gives
    (YieldsList-from_slice_split _ (between Lines) text c.split-l-items.ensures.rest c.split-l-items.ensures.done c.split-l-items.ensures.closure (λ x b q k. search rules))) in
    turn.invariant.1 ∙ rw (parts-split (between Lines) text) (ap (λ (ls : List (List ℕ)). put c.args.out.now 0 (over add_records [] ls)) end)
