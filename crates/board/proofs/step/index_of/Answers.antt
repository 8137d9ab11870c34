-- `board::step::index_of` meets its contract.
-- Assumes nothing.
use borrow.Author.Tests.{lt-ltb, le-ltb}
use Rattle.board.specs.Inputs.{index_of}
use Rattle.board.proofs.step.index_of.Goals as goal

pub returns-then-x-lt2 : goal.returns-then-x-lt2
unfolding index_of
returns-then-x-lt2 c = rw (lt-ltb _ _ c.if-x-lt2.true)

pub returns-then-x-lt8 : goal.returns-then-x-lt8
unfolding index_of
returns-then-x-lt8 c = rw (c.bit.ensures, lt-ltb _ _ c.if-x-lt8.true, le-ltb _ _ c.if-x-lt2.false)

pub returns-else-x-lt8 : goal.returns-else-x-lt8
unfolding index_of
returns-else-x-lt8 c = rw (c.bit-else-x-lt8.ensures, le-ltb _ _ c.if-x-lt8.false, le-ltb _ _ c.if-x-lt2.false)
