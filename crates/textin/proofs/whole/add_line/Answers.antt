-- `textin::whole::add_line` meets its contract.
-- Assumes nothing.
use Rattle.std.proofs.Common.{sym, ◌∙◌, arith}
use Rattle.textin.specs.Texts.{added, add_line}
use Rattle.textin.proofs.Texts.{bad-line, few-events}
use Rattle.textin.proofs.whole.add_line.Goals as goal

pub returns-then-is_some-clause-text : goal.returns-then-is_some-clause-text
returns-then-is_some-clause-text c = sym (bad-line _ _ (sym c.is_some.ensures ∙ c.if-is_some.true))

pub overflow_add-text : goal.overflow_add-text
overflow_add-text c = let h = few-events c.args.t.count c.in-Ok.said _ _ (sym c.fitting.ensures ∙ c.in-Ok.is) in omega arith

pub returns-in-Ok-clause-text : goal.returns-in-Ok-clause-text
unfolding added add_line
returns-in-Ok-clause-text c = rw (← c.is_some.ensures, c.if-is_some.false, ← c.read_line-line.ensures, ← c.fitting.ensures, c.in-Ok.is)

pub returns-in-Err-clause-text : goal.returns-in-Err-clause-text
unfolding added add_line
returns-in-Err-clause-text c = rw (← c.is_some.ensures, c.if-is_some.false, ← c.read_line-line.ensures, ← c.fitting.ensures, c.in-Err.is)
