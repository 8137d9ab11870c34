-- `board::step::scene` meets its contract.
-- Assumes nothing.
use Rattle.board.specs.Step.{scene_of}
use Rattle.board.proofs.step.scene.Goals as goal

pub returns : goal.returns
unfolding scene_of
returns c =
    rw (c.rises_at.ensures, c.ticks.ensures)
