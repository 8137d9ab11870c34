-- `buffers::word_at` meets its contract.
-- Assumes nothing.
use mathlib.Core.Path.{◌∙◌}
use native.Mathlib.Nat.{add-sub_cancel_left}
use Rattle.buffers.specs.Little.{field}
use Rattle.buffers.proofs.Bytes.{four-value}
use Rattle.buffers.proofs.word_at.Goals as goal

pub returns : goal.returns
unfolding field
returns c =
    let read = c.copy_from_slice.ensures in
    c.from_le_bytes.ensures ∙ four-value c.copy_from_slice.new.self read.len ∙ rw (read.after, add-sub_cancel_left)
