-- `textin::whole::write` meets its contract.
-- Assumes nothing.
use Rattle.std.proofs.Common.{◌≡◌, length}
use Rattle.buffers.specs.Pieces.{put}
use Rattle.textin.proofs.Texts.{so_far}
use Rattle.textin.proofs.whole.write.Given as goal

abbrev pub invariant-loop-l : goal.invariant-loop-l
invariant-loop-l l = (l.at ≡ length (so_far l.yielded)) × (l.out ≡ put l.initial.out 0 (so_far l.yielded)) × (length l.out ≡ length l.initial.out)
