-- How the account of a step is found: the same step is taken with empty queues, and a channel that then holds an entry has made a capture.
-- Assumes nothing.
use Rattle.std.specs.Prelude.{not, cond, ◌&&◌, List, ℕ, eqb}
use Rattle.words.specs.Bits.{flag}
use Rattle.words.specs.Table.{tab}
use Rattle.counter.specs.Setters.{with_queue}
use Rattle.counter.specs.declared.Channel.{Channel}
use Rattle.calls.specs.declared.Answer.{Answer}
use Rattle.board.specs.Inputs.{channel_in}
use Rattle.board.specs.declared.Board.{Board}
use Rattle.account.specs.Counts.{inputs_at, captures}
use Rattle.account.specs.Accounts.{account_in, more}
use Rattle.account.specs.declared.Account.{Account}

-- nothing is held
abbrev pub emptied : Channel → Channel
emptied c = with_queue c.counts c.timestamps c.reasons 0 c

unfoldable pub all_emptied : List Channel → List Channel
all_emptied cs = tab 6 (λ c. emptied (channel_in cs c))

-- a capture more for each channel that holds one now
unfoldable pub after_held : List Channel → List Account → List Account
after_held cs xs = tab 6 (λ c. more (account_in xs c) (flag (not (eqb (channel_in cs c).held 0))) 0 0)

-- a capture more for each channel that captures in a step on b with V and W
unfoldable pub after_step : ℕ → ℕ → Board → List Account → List Account
after_step v w b xs = tab 6 (λ c. more (account_in xs c) (flag (captures (inputs_at v w b c) (channel_in b.channels c))) 0 0)

-- the account of the channel that a call of kind k names, with its answer
unfoldable pub after_call : ℕ → Answer → Account → Account
after_call k a x =
    more x (flag (eqb k 8 && eqb a.result 0)) (flag (eqb k 11 && eqb a.result 0)) (cond (eqb k 11 && eqb a.result 6) a.value 0)
