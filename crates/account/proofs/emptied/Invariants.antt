-- `account::emptied` meets its contract.
-- Assumes nothing.
use mathlib.Core.Path.{◌≡◌}
use mathlib.Core.List.{◌++◌}
use lib.ListN.{drop}
use Rattle.words.specs.Table.{tab}
use Rattle.board.specs.Inputs.{channel_in}
use Rattle.account.specs.Code.{emptied}
use Rattle.account.proofs.emptied.Given as goal

abbrev pub invariant-loop-i : goal.invariant-loop-i
invariant-loop-i l = l.cs ≡ tab l.i (λ c. emptied (channel_in l.fn.cs c)) ++ drop l.i l.fn.cs
