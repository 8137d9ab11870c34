-- `board::Board::is_sound` meets its contract.
-- Assumes nothing.
use mathlib.Core.Path.{◌≡◌}
use lib.ListN.{length}
use borrow.Author.Tests.{eq-eqb}
use borrow.Author.Rules.{rules}
use Rattle.words.specs.Bits.{every}
use Rattle.board.specs.Handed.{in_range}
use Rattle.board.proofs.Board.is_sound.Goals as goal

pub returns : goal.returns
unfolding in_range every
returns c =
    let b = c.args.self in
    let s : length b.channels ≡ 6 = search rules in
    rw (c.is_sound-9.ensures, c.is_sound-8.ensures, c.is_sound-7.ensures, c.is_sound-6.ensures, c.is_sound-5.ensures, c.is_sound-4.ensures, c.is_sound-3.ensures, c.is_sound-2.ensures, c.is_sound.ensures, eq-eqb (length b.channels) 6 s)
