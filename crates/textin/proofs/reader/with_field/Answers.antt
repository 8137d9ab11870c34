-- `textin::reader::with_field` meets its contract.
-- Assumes nothing.
use Rattle.std.proofs.Common.{arith}
use Rattle.std.proofs.lemmas.Grind.{common_steps}
use Rattle.textin.specs.Readings.{with_field}
use Rattle.textin.proofs.reader.with_field.Goals as goal

pub returns-in-1 : goal.returns-in-1
unfolding with_field
returns-in-1 c = rw c.in-1.is

pub returns-in-2 : goal.returns-in-2
unfolding with_field
returns-in-2 c = rw c.in-2.is

pub returns-in-3 : goal.returns-in-3
unfolding with_field
returns-in-3 c = rw c.in-3.is

pub returns-in-4 : goal.returns-in-4
unfolding with_field
returns-in-4 c = rw c.in-4.is

pub returns-in-5 : goal.returns-in-5
unfolding with_field
returns-in-5 c = rw c.in-5.is

pub returns-in-6 : goal.returns-in-6
unfolding with_field
returns-in-6 c = rw c.in-6.is

pub returns-in_default : goal.returns-in_default
unfolding with_field
returns-in_default c = grind (arith, common_steps)
