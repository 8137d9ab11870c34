-- `textin::reader::holds` meets its contract.
-- Assumes nothing.
use Rattle.std.proofs.Common.{arith, sym, ◌^◌}
use borrow.Author.Tests.{lt-ltb, le-ltb, ne_eqb}
use Rattle.textin.specs.Readings.{room}
use Rattle.textin.proofs.reader.holds.Goals as goal

pub returns-in-5 : goal.returns-in-5
unfolding room
returns-in-5 c = rw c.in-5.is

pub returns-in-0-to-4 : goal.returns-in-0-to-4
unfolding room
returns-in-0-to-4 c = rw (lt-ltb c.args.f 5 (omega arith))

pub returns-in_default : goal.returns-in_default
unfolding room
returns-in_default c = rw (le-ltb c.args.f 5 (omega arith), ne_eqb c.args.f 5 (λ e. omega (arith, e))) (sym (lt-ltb c.args.n (2 ^ 64) (omega arith)))
