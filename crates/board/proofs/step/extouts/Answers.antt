-- `board::step::extouts` meets its contract.
-- Assumes nothing.
use Rattle.board.specs.Inputs.{extouts}
use Rattle.words.specs.Bits.{word}
use native.Mathlib.Omega.{arith}
use Rattle.board.proofs.step.extouts.Goals as goal

pub returns : goal.returns
unfolding extouts word
returns c = rw (c.flags-high.ensures.is, c.flags-low.ensures.is) (omega arith)
