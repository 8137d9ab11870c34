-- `kinds::input_at` meets its contract.
-- Assumes nothing.
use Rattle.std.proofs.Common.{sym, ◌∙◌}
use borrow.Author.Tests.{lt-ltb, le-ltb, eq-eqb, ne_eqb}
use Rattle.kinds.specs.Names.{input_at}
use Rattle.kinds.proofs.Names.{letter-below}
use Rattle.kinds.proofs.input_at.Goals as goal
use native.Mathlib.Omega.{arith}

pub overflow_add-result : goal.overflow_add-result
overflow_add-result c = let h = letter-below c.args.b c.in-Some.which (sym c.letter.ensures ∙ c.in-Some.is) in omega arith

pub returns-in-Some : goal.returns-in-Some
unfolding input_at
returns-in-Some c = rw (← c.letter.ensures, c.in-Some.is, lt-ltb c.args.n 6 c.if-n-lt-CHANNELS.true)

pub returns-in-None : goal.returns-in-None
unfolding input_at
returns-in-None c = rw (← c.letter.ensures, c.in-None.is, eq-eqb c.args.b 112 c.if-b-eq112.true, lt-ltb c.args.n 48 c.if-n-lt-PINS.true)

pub returns-in_default : goal.returns-in_default
unfolding input_at
returns-in_default c = rw (← c.letter.ensures, c.in-Some.is, le-ltb c.args.n 6 c.if-n-lt-CHANNELS.false)

pub returns-in_default-2 : goal.returns-in_default-2
unfolding input_at
returns-in_default-2 c = rw (← c.letter.ensures, c.in-None.is, eq-eqb c.args.b 112 c.if-b-eq112.true, le-ltb c.args.n 48 c.if-n-lt-PINS.false)

pub returns-in_default-3 : goal.returns-in_default-3
unfolding input_at
returns-in_default-3 c = rw (← c.letter.ensures, c.in-None.is, ne_eqb c.args.b 112 c.if-b-eq112.false)
