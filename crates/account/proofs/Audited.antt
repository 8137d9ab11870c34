-- Request 7: the accounts that a caller keeps are the sums of the claim, up to their end.
-- Assumes nothing.
use mathlib.Core.Path.{◌≡◌, sym, ◌∙◌}
use mathlib.Core.Bool.{true}
use mathlib.Core.List.{List, [], ◌∷◌}
use Prim.Native.Nat.{ℕ, min, ◌+◌, ◌^◌, ◌<◌}
use native.Mathlib.Omega.{arith}
use lib.ListN.{get_or-replicate}
use Rattle.words.proofs.Tables.{get_or-tab}
use Rattle.counter.specs.Repair.{repaired}
use Rattle.counter.proofs.Same.{channel-whole, channel-same}
use Rattle.calls.specs.declared.Event.{Event}
use Rattle.board.specs.Inputs.{channel_in}
use Rattle.board.specs.Respond.{respond}
use Rattle.board.specs.Handed.{reset_board, in_range, applied}
use Rattle.board.specs.Runs.{finish}
use Rattle.board.specs.declared.Board.{Board}
use Rattle.board.proofs.Same.{board-fields}
use Rattle.reach.proofs.Reach.{reset-ranged, demand2}
use Rattle.account.specs.Counts.{made, handed, reported, total}
use Rattle.account.specs.Accounts.{most, added, no_account, no_accounts, account_in, more, accounts_after, audited, balance_of, capped, balance}
use Rattle.account.specs.Claim.{Kept, Request7, at_end}
use Rattle.account.specs.declared.Account.{Account}
use Rattle.account.specs.declared.Balance.{Balance}
use Rattle.account.proofs.Events.{whole, at-most, accounted}

-- ---- numbers that stay at their end

added_none : (n : ℕ) → added n 0 ≡ n
unfolding added
added_none n = omega arith

added-on : (n j k : ℕ) → added (added n j) k ≡ added n (j + k)
unfolding added
added-on n j k = omega arith

added-first : (k : ℕ) → added 0 k ≡ min k most
unfolding added
added-first k = omega arith

below-most : (n : ℕ) → n < 2 ^ 32 → min n most ≡ n
below-most n h = omega (arith, h)

-- ---- accounts

pub more-none : (x : Account) → more x 0 0 0 ≡ x
more-none x = rw (added_none x.made, added_none x.handed, added_none x.reported)

more-on : (x : Account) (m h r n k s : ℕ) → more (more x m h r) n k s ≡ more x (m + n) (h + k) (r + s)
more-on x m h r n k s = rw (added-on x.made m n, added-on x.handed h k, added-on x.reported r s)

-- ---- a list

audited-is : (es : List Event) (xs : List Account) (b : Board) → in_range b ≡ true → (c : ℕ) → c < 6
    → account_in (audited xs b es) c
    ≡ more (account_in xs c) (total respond (made c) b es) (total respond (handed c) b es) (total respond (reported c) b es)
unfolding audited total accounts_after
audited-is [] xs b r c h = sym (more-none (account_in xs c))
audited-is (e ∷ es) xs b r c h =
    let on = demand2.0 b r in
    rw (on.alone, on.entry e)
    (audited-is es (accounts_after b e xs) (respond b e).state (on.stays e) c h
    ∙ rw (get_or-tab 6 _ c no_account h) (more-on (account_in xs c) _ _ _ _ _ _))

module _ (es : List Event) (c : ℕ) (h : c < 6) where
  account-is : account_in (audited no_accounts reset_board es) c
      ≡ more no_account (total respond (made c) reset_board es) (total respond (handed c) reset_board es) (total respond (reported c) reset_board es)
  unfolding no_accounts
  account-is = audited-is es no_accounts reset_board reset-ranged c h ∙ rw (get_or-replicate 6 c no_account no_account h)

  -- the repair leaves the channel at the end alone
  channel-is : repaired (channel_in (finish applied reset_board es).channels c) ≡ channel_in (finish respond reset_board es).channels c
  channel-is =
      let run = demand2.1 es in
      rw run.same_last (channel-same _ (channel-whole _ ((board-fields _ run.last).channels c h)))

  numbers : at_end es c ≡ capped (balance respond reset_board es c)
  unfolding balance_of balance
  numbers = rw (account-is, channel-is, added-first (total respond (made c) reset_board es), added-first (total respond (handed c) reset_board es), added-first (total respond (reported c) reset_board es))

  kept : Kept es c
  unfolding balance
  kept = record {
    numbers = numbers;
    exact = λ few.
        let all = at-most es c h in
        let n : Balance = balance respond reset_board es c in
        numbers ∙ rw (below-most n.made few, below-most n.handed (omega (arith, few, all)), below-most n.reported (omega (arith, few, all)));
  }

pub request7 : Request7
request7 = record { claim = accounted; boards = whole; at_most = at-most; kept = kept }
