-- `account::balance_of` meets its contract.
-- Assumes nothing.
use Rattle.account.specs.Accounts.{balance_of}
use Rattle.account.proofs.balance_of.Goals as goal

pub returns : goal.returns
unfolding balance_of
returns c = rw c.repair-sound.ensures
