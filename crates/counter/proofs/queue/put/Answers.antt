-- `counter::queue::put` meets its contract.
-- Assumes nothing.
use Rattle.std.proofs.Common.{◌≡◌, cond, eqb, length, get_or, ◌∙◌, rules, arith}
use Rattle.words.proofs.Arrays.{from_fn_is}
use Rattle.counter.proofs.Placed.{put_is}
use Rattle.counter.proofs.queue.put.Goals as goal

pub returns : goal.returns
returns c =
    let args = c.args in
    let h : length args.a ≡ 16 = omega (arith, c.well_formed.0.1) in
    from_fn_is _ (λ i. cond (eqb i args.at) args.x (get_or args.a i 0)) 0 c.from_fn.ensures.items (λ k y q called. search rules) ∙ rw h at (put_is args.a args.at args.x)
