-- `account::after_step` meets its contract.
-- Assumes nothing.
use Rattle.account.proofs.Adds.{step-held}
use Rattle.account.proofs.after_step.Goals as goal

pub returns : goal.returns
returns c =
    let a = c.args in
    rw (c.after_held.ensures, c.step.ensures, c.emptied.ensures) (step-held a.board a.v a.w a.accounts)
