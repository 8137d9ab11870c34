-- `textin::whole::put_records` meets its contract.
-- Assumes nothing.
use Rattle.std.proofs.Common.{◌≡◌, ◌+◌, ◌*◌, refl, sym, ◌∙◌, arith}
use Rattle.buffers.specs.Pieces.{joined}
use Rattle.buffers.proofs.Put.{put-none}
use Rattle.textin.proofs.Repeats.{repeated-more}
use Rattle.textin.proofs.whole.put_records.Goals as goal

pub loop-i-init : goal.loop-i-init
unfolding joined
loop-i-init c = (sym (put-none _ _), refl)

pub loop-i-preserved : goal.loop-i-preserved
loop-i-preserved c =
    let a = c.args in
    let done = repeated-more a.out.now a.at c.loop-i.i (a.at + 16 * c.loop-i.i) a.line.event refl (omega arith) in
    (c.put_record.ensures ∙ rw c.loop-i.invariant.0 done, omega arith)

pub returns : goal.returns
returns c =
    let e : c.loop-i.i ≡ c.args.line.times = omega arith in
    (refl, c.loop-i.invariant.0 ∙ rw e refl)
