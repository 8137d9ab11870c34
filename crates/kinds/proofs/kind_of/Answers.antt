-- `kinds::kind_of` meets its contract.
-- Assumes nothing.
use Rattle.std.proofs.Common.{◌∙◌}
use borrow.Author.Tests.{lt-ltb, le-ltb}
use Rattle.words.specs.Table.{tab}
use Rattle.scan.specs.Bytes.{ascii}
use Rattle.scan.proofs.Bytes.{same-pointwise}
use Rattle.kinds.specs.Names.{kinds, raw_name, kind_of}
use Rattle.kinds.proofs.kind_of.Goals as goal

pub returns-in-Some : goal.returns-in-Some
unfolding kind_of
returns-in-Some c = rw (← c.number.ensures, c.in-Some.is, lt-ltb c.in-Some.n kinds c.if-n.true)

pub returns-in-Some-2 : goal.returns-in-Some-2
unfolding kind_of
returns-in-Some-2 c = rw (← c.number.ensures, c.in-Some.is, le-ltb c.in-Some.n kinds c.if-n.false)

pub returns-in-None : goal.returns-in-None
unfolding kind_of raw_name ascii tab
returns-in-None c = rw (← c.number.ensures, c.in-None.is, same-pointwise _ _, ← c.as_bytes.ensures.value, ← c.eq.ensures, c.if-eq.true)

pub returns-in-None-2 : goal.returns-in-None-2
unfolding kind_of raw_name ascii tab
returns-in-None-2 c = c.by_name.ensures ∙ rw (← c.number.ensures, c.in-None-2.is, same-pointwise _ _, ← c.as_bytes.ensures.value, ← c.eq.ensures, c.if-eq.false)
