-- Request 7, the account as it is kept: six of them, which go on by one event at a time, and the five numbers read off at the end.
-- Assumes nothing.
use Rattle.std.specs.Prelude.{List, [], ◌∷◌, ℕ, min, ◌+◌, ◌-◌, ◌^◌, get_or, replicate}
use Rattle.words.specs.Table.{tab}
use Rattle.counter.specs.declared.Channel.{Channel}
use Rattle.calls.specs.declared.Reply.{Reply}
use Rattle.calls.specs.declared.Event.{Event}
use Rattle.calls.specs.declared.Answer.{Answer}
use Rattle.board.specs.Inputs.{channel_in}
use Rattle.board.specs.Respond.{respond}
use Rattle.board.specs.Handed.{repaired_board, applied}
use Rattle.board.specs.Runs.{finish}
use Rattle.board.specs.declared.Board.{Board}
use Rattle.account.specs.Counts.{made, handed, reported, total}
use Rattle.account.specs.declared.Account.{Account}
use Rattle.account.specs.declared.Balance.{Balance}

-- the end of a 64-bit number
abbrev pub most : ℕ
most = 2 ^ 64 - 1

-- n with k more, as far as there is room: it stays at its end
unfoldable pub added : ℕ → ℕ → ℕ
added n k = n + min k (most - n)

-- nothing was made, handed out or reported
abbrev pub no_account : Account
no_account = record { made = 0; handed = 0; reported = 0 }

unfoldable pub no_accounts : List Account
no_accounts = replicate 6 no_account

abbrev pub account_in : List Account → ℕ → Account
account_in xs c = get_or xs c no_account

-- so much more of each
abbrev pub more : Account → ℕ → ℕ → ℕ → Account
more x m h r = record { made = added x.made m; handed = added x.handed h; reported = added x.reported r }

-- the account of channel c after an event that finds the board b and is answered a
abbrev pub account_after : ℕ → Board → Event → Answer → Account → Account
account_after c b e a x = more x (made c b e a) (handed c b e a) (reported c b e a)

-- all six after an event on b
unfoldable pub accounts_after : Board → Event → List Account → List Account
accounts_after b e xs = tab 6 (λ c. account_after c b e (respond b e).answer (account_in xs c))

-- what a caller keeps: the accounts go on by each event, which meets the board that the entry point left
unfoldable pub audited : List Account → Board → List Event → List Account
audited xs b [] = xs
audited xs b (e ∷ es) = audited (accounts_after (repaired_board b) e xs) (applied b e).state es

-- ---- the five numbers

-- of an account and the channel at the end
unfoldable pub balance_of : Account → Channel → Balance
balance_of x c = record { made = x.made; handed = x.handed; held = c.held; reported = x.reported; unreported = c.lost }

-- three of them stay at their end
abbrev pub capped : Balance → Balance
capped n =
    record {
      made = min n.made most;
      handed = min n.handed most;
      held = n.held;
      reported = min n.reported most;
      unreported = n.unreported;
    }

-- of channel c over a list that a machine answers from the board b
unfoldable pub balance : (Board → Event → Reply Board) → Board → List Event → ℕ → Balance
balance machine b es c =
    let end : Channel = channel_in (finish machine b es).channels c in
    record {
      made = total machine (made c) b es;
      handed = total machine (handed c) b es;
      held = end.held;
      reported = total machine (reported c) b es;
      unreported = end.lost;
    }
