-- `textin::reader::wanted_field` meets its contract.
-- Assumes nothing.
use Rattle.std.proofs.Common.{arith}
use Rattle.std.proofs.lemmas.Grind.{common_steps}
use Rattle.textin.specs.Readings.{wanted_field}
use Rattle.textin.proofs.reader.wanted_field.Goals as goal

pub returns-in-0 : goal.returns-in-0
unfolding wanted_field
returns-in-0 c = rw c.in-0.is

pub returns-in-1 : goal.returns-in-1
unfolding wanted_field
returns-in-1 c = rw c.in-1.is

pub returns-in-2 : goal.returns-in-2
unfolding wanted_field
returns-in-2 c = rw c.in-2.is

pub returns-in-3 : goal.returns-in-3
unfolding wanted_field
returns-in-3 c = rw c.in-3.is

pub returns-in-4 : goal.returns-in-4
unfolding wanted_field
returns-in-4 c = rw c.in-4.is

pub returns-in-5 : goal.returns-in-5
unfolding wanted_field
returns-in-5 c = rw c.in-5.is

pub returns-in-7 : goal.returns-in-7
unfolding wanted_field
returns-in-7 c = rw c.in-7.is

pub returns-in_default : goal.returns-in_default
unfolding wanted_field
returns-in_default c = grind (arith, common_steps)
