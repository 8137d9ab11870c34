-- `textin::whole::put_records` meets its contract.
-- Assumes nothing.
use Rattle.std.proofs.Common.{◌≡◌, length}
use Rattle.buffers.specs.Pieces.{put}
use Rattle.textin.proofs.Repeats.{repeated}
use Rattle.textin.proofs.whole.put_records.Given as goal

abbrev pub invariant-loop-i : goal.invariant-loop-i
invariant-loop-i l = (l.out ≡ put l.initial.out l.at (repeated l.i l.line.event)) × (length l.out ≡ length l.initial.out)
