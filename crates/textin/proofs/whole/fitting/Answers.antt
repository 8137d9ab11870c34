-- `textin::whole::fitting` meets its contract.
-- Assumes nothing.
use Rattle.std.proofs.Common.{arith, ◌+◌, rules}
use borrow.Author.Tests.{lt-ltb, le-ltb}
use Rattle.textin.specs.Texts.{among, fitting}
use Rattle.textin.proofs.whole.fitting.Goals as goal

pub returns-then-size-gt-LONGEST : goal.returns-then-size-gt-LONGEST
unfolding fitting among
returns-then-size-gt-LONGEST c = rw (lt-ltb 65535 c.args.size c.if-size-gt-LONGEST.true)

pub returns-in_err-said : goal.returns-in_err-said
unfolding fitting among
returns-in_err-said c = rw (le-ltb 65535 c.args.size c.if-size-gt-LONGEST.false, c.in_err-said.was) (search rules)

pub returns-then-saturating_add-gt-MOST : goal.returns-then-saturating_add-gt-MOST
unfolding fitting among
returns-then-saturating_add-gt-MOST c = rw (le-ltb 65535 c.args.size c.if-size-gt-LONGEST.false, c.in_ok-said.was, lt-ltb 2031585 (c.args.count + c.in_ok-said.said.times) (omega arith))

pub returns : goal.returns
unfolding fitting among
returns c = rw (le-ltb 65535 c.args.size c.if-size-gt-LONGEST.false, c.in_ok-said.was, le-ltb 2031585 (c.args.count + c.in_ok-said.said.times) (omega arith))
