-- `buffers::clear` meets its contract.
-- Assumes nothing.
use mathlib.Core.Path.{◌≡◌}
use Prim.Native.Nat.{◌+◌, ◌-◌}
use native.Mathlib.Nat.{add-sub_cancel_left}
use native.Mathlib.Omega.{arith}
use lib.ListN.{length, take, drop, length-drop, replicate, length-replicate}
use lib.Seq.{length-take-le}
use Rattle.buffers.proofs.Put.{part-put}
use Rattle.buffers.proofs.clear.Goals as goal

pub returns : goal.returns
returns c =
    let a = c.args in
    let room : length (take (a.at + a.n - a.at) (drop a.at a.out.now)) ≡ a.n = rw add-sub_cancel_left (length-take-le a.n (drop a.at a.out.now) (simp length-drop (omega arith))) in
    rw (c.fill.ensures.after (λ y e. e), room, add-sub_cancel_left) (part-put a.at a.n a.out.now (replicate a.n 0) (length-replicate a.n 0))
