-- `account::none` meets its contract.
-- Assumes nothing.
use mathlib.Core.Path.{refl}
use Rattle.account.specs.Accounts.{no_accounts}
use Rattle.account.proofs.none.Goals as goal

pub returns : goal.returns
unfolding no_accounts
returns c = refl
