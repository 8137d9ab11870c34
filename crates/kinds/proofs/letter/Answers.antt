-- `kinds::letter` meets its contract.
-- Assumes nothing.
use Rattle.std.proofs.Common.{arith}
use Rattle.std.proofs.lemmas.Grind.{common_steps}
use Rattle.kinds.specs.Names.{letter}
use Rattle.kinds.proofs.letter.Goals as goal

pub returns-in-97 : goal.returns-in-97
unfolding letter
returns-in-97 c = rw c.in-97.is

pub returns-in-98 : goal.returns-in-98
unfolding letter
returns-in-98 c = rw c.in-98.is

pub returns-in-120 : goal.returns-in-120
unfolding letter
returns-in-120 c = rw c.in-120.is

pub returns-in_default : goal.returns-in_default
unfolding letter
returns-in_default c = grind (arith, common_steps)
