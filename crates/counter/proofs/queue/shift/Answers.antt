-- `counter::queue::shift` meets its contract.
-- Assumes nothing.
use Rattle.std.proofs.Common.{◌≡◌, ◌+◌, ◌++◌, ◌∷◌, [], ap, ◌∙◌, sym, drop, get_or, suc, arith}
use Rattle.std.proofs.lemmas.List.{get_or-take, get_or-drop}
use Rattle.words.proofs.Tables.{tab-same}
use Rattle.counter.proofs.queue.shift.Goals as goal

pub returns : goal.returns
returns c =
    let a = c.args.a in
    let moved = c.copy_from_slice.ensures in
    ap (λ l. l ++ 0 ∷ [])
    (sym (tab-same 15 (λ i. get_or a (suc i) 0) _ 0 moved.len (λ i h. let one : 1 + i ≡ suc i = omega arith in rw moved.after (sym (get_or-take 15 (drop 1 a) i 0 h ∙ get_or-drop 1 a i 0 ∙ ap (λ j. get_or a j 0) one)))))
