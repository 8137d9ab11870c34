-- `board::Board::repair` meets its contract.
-- Assumes nothing.
use Rattle.words.specs.Table.{tab}
use Rattle.board.specs.Handed.{repaired_board}
use Rattle.board.proofs.Board.repair.Goals as goal

pub returns : goal.returns
unfolding repaired_board tab
returns c =
    rw (c.repair-9.ensures, c.repair-8.ensures, c.repair-7.ensures, c.repair-6.ensures, c.repair-5.ensures, c.repair-4.ensures, c.repair-3.ensures, c.repair-2.ensures, c.repair.ensures)
