-- `kinds::input_of` meets its contract.
-- Assumes nothing.
use Rattle.std.proofs.Common.{sym, ◌∙◌}
use Rattle.kinds.specs.Names.{input_of}
use Rattle.kinds.proofs.Names.{input_none}
use Rattle.kinds.proofs.input_of.Goals as goal

pub returns-in_err-b : goal.returns-in_err-b
returns-in_err-b c = c.from_residual.ensures ∙ sym (input_none c.args.w.now c.in_err-b.ensures.cases)

pub returns-in_err-figure : goal.returns-in_err-figure
unfolding input_of
returns-in_err-figure c =
    rw (c.from_residual-in_err-figure.ensures, c.in_ok-b.ensures.cases.0, ← c.figure.ensures, c.in_err-figure.was)

pub returns : goal.returns
unfolding input_of
returns c = rw (c.input_at.ensures, c.in_ok-b.ensures.cases.0, ← c.figure.ensures, c.in_ok-figure.was)
