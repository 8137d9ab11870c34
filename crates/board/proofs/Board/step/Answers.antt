-- `board::Board::step` meets its contract.
-- Assumes nothing.
use Rattle.board.specs.Step.{stepped, step_with}
use Rattle.board.proofs.Board.step.Goals as goal

pub returns : goal.returns
unfolding stepped step_with
returns c =
    rw (c.drive-driven.ensures, c.extouts-2.ensures, c.advance_all-next.ensures, c.scene-s.ensures, c.extouts.ensures, c.levels-virtuals.ensures, c.advance_core-core.ensures, c.bit.ensures, c.sense-pins.ensures)
