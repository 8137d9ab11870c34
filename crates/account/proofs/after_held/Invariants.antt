-- `account::after_held` meets its contract.
-- Assumes nothing.
use mathlib.Core.Path.{◌≡◌}
use mathlib.Core.Bool.{not}
use mathlib.Core.List.{List, ◌++◌}
use Prim.Native.Nat.{ℕ}
use lib.Dec.{eqb}
use lib.ListN.{drop}
use Rattle.words.specs.Bits.{flag}
use Rattle.words.specs.Table.{tab}
use Rattle.counter.specs.declared.Channel.{Channel}
use Rattle.board.specs.Inputs.{channel_in}
use Rattle.account.specs.Accounts.{account_in, more}
use Rattle.account.specs.declared.Account.{Account}
use Rattle.account.proofs.after_held.Given as goal

abbrev pub own : List Channel → List Account → ℕ → Account
own cs xs c = more (account_in xs c) (flag (not (eqb (channel_in cs c).held 0))) 0 0

abbrev pub invariant-loop-i : goal.invariant-loop-i
invariant-loop-i l = l.accounts ≡ tab l.i (own l.cs l.fn.accounts) ++ drop l.i l.fn.accounts
