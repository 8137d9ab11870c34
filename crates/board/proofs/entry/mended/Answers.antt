-- `board::entry::mended` meets its contract.
-- Assumes nothing.
use mathlib.Core.Path.{sym, ◌∙◌}
use Rattle.board.proofs.Same.{board-same}
use Rattle.board.proofs.entry.mended.Goals as goal

pub returns-then-is_sound : goal.returns-then-is_sound
returns-then-is_sound c = sym (board-same _ (sym c.is_sound.ensures ∙ c.if-is_sound.true))
