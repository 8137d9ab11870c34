-- `buffers::copy_to` meets its contract.
-- Assumes nothing.
use mathlib.Core.Path.{refl}
use native.Mathlib.Nat.{add-sub_cancel_left}
use Rattle.buffers.proofs.Put.{part-put}
use Rattle.buffers.proofs.copy_to.Goals as goal

pub returns : goal.returns
returns c = rw (add-sub_cancel_left, c.copy_from_slice.ensures.after) (part-put c.args.at _ _ _ refl)
