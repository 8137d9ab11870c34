-- Request 7, every capture is accounted for: the claim, what still holds from 2^32 captures on, and that the accounts kept give these numbers.
-- Assumes nothing.
use Rattle.std.specs.Prelude.{◌≡◌, true, List, ℕ, ◌+◌, ◌^◌, ◌≤◌, ◌<◌}
use Rattle.counter.specs.Repair.{repaired}
use Rattle.calls.specs.declared.Reply.{Reply}
use Rattle.calls.specs.declared.Event.{Event}
use Rattle.board.specs.Inputs.{channel_in}
use Rattle.board.specs.Respond.{respond}
use Rattle.board.specs.Handed.{reset_board, in_range, applied}
use Rattle.board.specs.Runs.{finish}
use Rattle.board.specs.declared.Board.{Board}
use Rattle.account.specs.Counts.{unseen, total}
use Rattle.account.specs.Accounts.{no_accounts, account_in, audited, balance_of, capped, balance}
use Rattle.account.specs.declared.Balance.{Balance}

-- handed out, held, reported and not yet reported, together
abbrev pub accounted_for : Balance → ℕ
accounted_for n = n.handed + n.held + n.reported + n.unreported

-- ---- the claim

abbrev pub Accounted : (Board → Event → Reply Board) → Type 0
Accounted machine =
    (es : List Event) (c : ℕ) → c < 6
    → let n : Balance = balance machine reset_board es c in
    n.made < 2 ^ 32 → n.made ≡ accounted_for n

-- ---- however many captures there are

-- over a list from the board b, on which channel c may hold captures and have lost some
pub record Whole (b : Board) (es : List Event) (c : ℕ) : Type 0 where
  -- what is missing are the captures of which no number is left
  pub exact : (channel_in b.channels c).held + (channel_in b.channels c).lost + (balance respond b es c).made
      ≡ accounted_for (balance respond b es c) + total respond (unseen c) b es
  -- and there are none of these before the lost count has come to its end
  pub none : (channel_in b.channels c).lost + (balance respond b es c).made < 2 ^ 32 → total respond (unseen c) b es ≡ 0

-- from reset no more are accounted for than were made
abbrev pub AtMost : Type 0
AtMost = (es : List Event) (c : ℕ) → c < 6 → accounted_for (balance respond reset_board es c) ≤ (balance respond reset_board es c).made

-- ---- the accounts kept

-- the five numbers that a caller has of channel c after a list from reset, by what the code promises of each event
abbrev pub at_end : List Event → ℕ → Balance
at_end es c = balance_of (account_in (audited no_accounts reset_board es) c) (repaired (channel_in (finish applied reset_board es).channels c))

-- they are the claim's, three of them up to their end, which they do not reach with fewer than 2^32 captures
pub record Kept (es : List Event) (c : ℕ) : Type 0 where
  pub numbers : at_end es c ≡ capped (balance respond reset_board es c)
  pub exact : (balance respond reset_board es c).made < 2 ^ 32 → at_end es c ≡ balance respond reset_board es c

pub record Request7 : Type 0 where
  pub claim : Accounted respond
  pub boards : (b : Board) → in_range b ≡ true → (es : List Event) (c : ℕ) → c < 6 → Whole b es c
  pub at_most : AtMost
  pub kept : (es : List Event) (c : ℕ) → c < 6 → Kept es c
