-- `board::step::advance_core` meets its contract.
-- Assumes nothing.
use Rattle.board.specs.Step.{core_next}
use Rattle.board.proofs.step.advance_core.Goals as goal

pub returns : goal.returns
unfolding core_next
returns c =
    rw (c.guard.ensures, c.has_expired.ensures, c.advance.ensures, c.watch-dog.ensures)
