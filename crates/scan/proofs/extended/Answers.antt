-- `scan::extended` meets its contract.
-- Assumes nothing.
use mathlib.Core.Path.{refl, sym, ◌∙◌}
use native.Mathlib.Omega.{arith}
use Rattle.scan.proofs.Numbers.{extended_none, extended-other, extended-over, extended-sum}
use Rattle.scan.proofs.extended.Goals as goal

pub returns-then-digit-base : goal.returns-then-digit-base
returns-then-digit-base c = sym (extended-other _ c.args.n _ (rw (← c.worth-digit.ensures) c.if-digit-base.true))

pub returns-in_err-n : goal.returns-in_err-n
returns-in_err-n c = rw (c.in_err-n.was, c.from_residual.ensures) (sym (extended_none _ _))

pub returns-in_err-checked_mul : goal.returns-in_err-checked_mul
returns-in_err-checked_mul c =
    let w = c.worth-digit.ensures in
    rw (c.in_ok-n.was, c.from_residual-in_err-checked_mul.ensures)
    (sym (extended-over c.args.base c.in_ok-n.field-0 c.args.b (rw (← w) c.if-digit-base.false) (omega (arith, c.in_err-checked_mul.ensures))))

pub returns : goal.returns
returns c =
    let w = c.worth-digit.ensures in
    rw c.in_ok-n.was (extended-sum c.args.base c.in_ok-n.field-0 c.args.b c.checked_add.result (rw (← w) c.if-digit-base.false) (rw (← w, ← c.in_ok-checked_mul.ensures.1) c.checked_add.ensures))
