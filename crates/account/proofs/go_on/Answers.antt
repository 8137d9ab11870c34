-- `account::go_on` meets its contract.
-- Assumes nothing.
use mathlib.Core.Path.{sym, ◌∙◌}
use native.Mathlib.Omega.{arith}
use Rattle.board.specs.Handed.{repaired_board}
use Rattle.board.proofs.Kept.{answered}
use Rattle.account.proofs.Adds.{step-adds, call-adds, nothing-adds}
use Rattle.account.proofs.go_on.Goals as goal

pub returns-then-is_step : goal.returns-then-is_step
returns-then-is_step c =
    let a = c.args in
    rw (c.after_step.ensures, c.repair.ensures)
    (step-adds (repaired_board a.board) a.event (sym c.is_step.ensures ∙ c.if-is_step.true) a.accounts)

pub returns-else-m-lt-CHANNELS : goal.returns-else-m-lt-CHANNELS
returns-else-m-lt-CHANNELS c =
    let a = c.args in
    nothing-adds (repaired_board a.board) a.event (sym c.is_step.ensures ∙ c.if-is_step.false) c.if-m-lt-CHANNELS.false a.accounts (omega (arith, c.well_formed.0.1))

pub returns-then-m-lt-CHANNELS : goal.returns-then-m-lt-CHANNELS
returns-then-m-lt-CHANNELS c =
    let a = c.args in
    rw (c.after_call.ensures, c.apply.ensures, answered a.board a.event)
    (call-adds (repaired_board a.board) a.event (sym c.is_step.ensures ∙ c.if-is_step.false) c.if-m-lt-CHANNELS.true a.accounts (omega (arith, c.well_formed.0.1)))
