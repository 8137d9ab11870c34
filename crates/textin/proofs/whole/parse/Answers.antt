-- `textin::whole::parse` meets its contract.
-- Assumes nothing.
use Rattle.std.proofs.Common.{◌/◌, length, arith}
use borrow.Author.Tests.{le-ltb, lt-ltb}
use Rattle.textin.specs.Texts.{answered, output}
use Rattle.textin.proofs.Texts.{records-counted}
use Rattle.textin.proofs.whole.parse.Goals as goal

pub returns-in-Some-clause-answer : goal.returns-in-Some-clause-answer
unfolding answered output
returns-in-Some-clause-answer c = rw (← c.check-t.ensures, c.in-Some.is)

pub returns-in-Some-clause-wrote : goal.returns-in-Some-clause-wrote
unfolding answered output
returns-in-Some-clause-wrote c = rw (← c.check-t.ensures, c.in-Some.is)

pub returns-then-out-t-clause-answer : goal.returns-then-out-t-clause-answer
unfolding answered output
returns-then-out-t-clause-answer c = rw (← c.check-t.ensures, c.in_default.is, lt-ltb (length c.args.out.now / 16) c.check-t.result.count c.if-out-t.true)

pub returns-then-out-t-clause-wrote : goal.returns-then-out-t-clause-wrote
unfolding answered output
returns-then-out-t-clause-wrote c = rw (← c.check-t.ensures, c.in_default.is, lt-ltb (length c.args.out.now / 16) c.check-t.result.count c.if-out-t.true)

pub write-requires : goal.write-requires
write-requires c =
    let count = rw (← c.check-t.ensures) at (records-counted c.args.text.now) in
    omega (arith, count c.in_default.is)

pub returns-clause-answer : goal.returns-clause-answer
unfolding answered output
returns-clause-answer c = rw (← c.check-t.ensures, c.in_default.is, le-ltb (length c.args.out.now / 16) c.check-t.result.count c.if-out-t.false)

pub returns-clause-wrote : goal.returns-clause-wrote
unfolding answered output
returns-clause-wrote c = rw (← c.check-t.ensures, c.in_default.is, le-ltb (length c.args.out.now / 16) c.check-t.result.count c.if-out-t.false) c.write.ensures
