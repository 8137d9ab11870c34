-- What the code adds for an event is what the definition has: for a step, taken with empty queues, and for a call.
-- Assumes nothing.
use mathlib.Core.Path.{◌≡◌, refl, ap, sym, ◌∙◌}
use mathlib.Core.Bool.{Bool, true, false, not, cond, and-false, and-eq-true_iff}
use mathlib.Core.List.{List}
use Prim.Native.Nat.{ℕ, ◌≤◌, ◌<◌}
use native.Mathlib.Decide.{ℕ_discrete}
use native.Mathlib.Omega.{arith}
use lib.Dec.{eqb}
use lib.ListN.{length, set, length-set}
use lib.Seq.{get_or-set_same, get_or-set_other}
use borrow.Author.Tests.{eqb-true, eq-eqb, ne_eqb}
use Rattle.words.specs.Bits.{flag}
use Rattle.words.proofs.BitLaws.{word-ext}
use Rattle.words.proofs.Tables.{tab-ext, tab-same, get_or-tab}
use Rattle.counter.specs.Queue.{captured}
use Rattle.counter.specs.Repair.{no_channel}
use Rattle.counter.specs.Advance.{Inputs, look, counted, next_of, settled, step, advance}
use Rattle.counter.specs.declared.Channel.{Channel}
use Rattle.counter.specs.declared.Next.{Next}
use Rattle.calls.specs.Fields.{is_step}
use Rattle.calls.specs.declared.Event.{Event}
use Rattle.board.specs.Inputs.{channel_in, neighbour, extouts, inputs_of, channel_next, all_next}
use Rattle.board.specs.Step.{step_with, stepped}
use Rattle.board.specs.Respond.{with_channels}
use Rattle.board.specs.declared.Board.{Board}
use Rattle.reach.proofs.RangedBoard.{neighbour-lt}
use Rattle.account.specs.Counts.{scene_at, inputs_at, reasons_in, captures, made, handed, reported}
use Rattle.account.specs.Accounts.{no_account, account_in, more, account_after, accounts_after}
use Rattle.account.specs.Code.{emptied, all_emptied, after_held, after_step, after_call}
use Rattle.account.specs.declared.Account.{Account}
use Rattle.account.proofs.Captures.{caught}
use Rattle.account.proofs.Events.{answer, step-makes, call-makes}
use Rattle.account.proofs.Audited.{more-none}

-- ---- a step with empty queues

-- a channel with an empty queue holds an entry after it if and only if it captures
held_after : (i : Inputs) (c : Channel) → (advance i (emptied c)).held ≡ flag (captures i c)
unfolding advance step settled next_of captured reasons_in counted look
held_after i c = rw (← caught i c) (go (eqb n.caught 0))
  where
    n : Next
    n = next_of i.now (look i.now i.carried i.rises c) c

    go : (t : Bool) → (cond t (record { channel = emptied c; stored = false }) (captured n.seen i.timestamp n.caught (emptied c))).channel.held ≡ flag (not t)
    go true = refl
    go false = refl

module _ (b : Board) where
  abbrev empty : Board
  empty = with_channels (all_emptied b.channels) b

  channel-in : (c : ℕ) → c < 6 → channel_in empty.channels c ≡ emptied (channel_in b.channels c)
  unfolding all_emptied
  channel-in c h = get_or-tab 6 (λ c. emptied (channel_in b.channels c)) c no_channel h

  same-outs : extouts empty.channels ≡ extouts b.channels
  unfolding extouts
  same-outs = word-ext 6 _ _ (λ c h. ap (λ (x : Channel). x.extout) (channel-in c h))

  held_in : (v w c : ℕ) → c < 6 → (channel_in (stepped v w empty).channels c).held ≡ flag (captures (inputs_at v w b c) (channel_in b.channels c))
  unfolding stepped step_with all_next channel_next inputs_at scene_at inputs_of
  held_in v w c h =
      rw (get_or-tab 6 _ c no_channel h, same-outs, channel-in c h, channel-in (neighbour c) (neighbour-lt c h))
      (held_after (inputs_at v w b c) (channel_in b.channels c))

  not_none : (t : Bool) → not (eqb (flag t) 0) ≡ t
  not_none true = refl
  not_none false = refl

  pub step-held : (v w : ℕ) (xs : List Account) → after_held (stepped v w empty).channels xs ≡ after_step v w b xs
  unfolding after_held after_step
  step-held v w xs =
      tab-ext 6 _ _ (λ c h. ap (λ t. more (account_in xs c) (flag t) 0 0) (ap (λ n. not (eqb n 0)) (held_in v w c h) ∙ not_none (captures (inputs_at v w b c) (channel_in b.channels c))))

-- ---- what an event adds

module _ (b : Board) (e : Event) where
  pub step-adds : is_step e ≡ true → (xs : List Account) → after_step e.v e.w b xs ≡ accounts_after b e xs
  unfolding after_step accounts_after made handed reported
  step-adds s xs =
      tab-ext 6 _ _ (λ c h. rw (step-makes c b e s, eqb-true e.kind 0 ((and-eq-true_iff _ _).0 s).0, and-false (eqb e.member c)))

  module _ (s : is_step e ≡ false) where
    -- for the channel that the call names
    own-adds : (x : Account) → account_after e.member b e (answer e.member b e) x ≡ after_call e.kind (answer e.member b e) x
    unfolding made handed reported after_call
    own-adds x = rw (call-makes e.member b e s, eq-eqb e.member e.member refl)

    -- for another
    none-added : (c : ℕ) → (e.member ≡ c → ⊥) → (x : Account) → account_after c b e (answer c b e) x ≡ x
    unfolding made handed reported
    none-added c d x = rw (call-makes c b e s, ne_eqb e.member c d) (more-none x)

    pub call-adds : e.member < 6 → (xs : List Account) → length xs ≡ 6
        → set xs e.member (after_call e.kind (answer e.member b e) (account_in xs e.member)) ≡ accounts_after b e xs
    unfolding accounts_after
    call-adds m xs six = sym (tab-same 6 _ _ no_account (length-set xs e.member _ ∙ six) (λ c h. at c (ℕ_discrete c e.member)))
      where
        at : (c : ℕ) → Dec (c ≡ e.member) → account_after c b e (answer c b e) (account_in xs c)
            ≡ account_in (set xs e.member (after_call e.kind (answer e.member b e) (account_in xs e.member))) c
        at c (yes p) = rw p (own-adds (account_in xs e.member) ∙ sym (get_or-set_same xs e.member _ no_account (omega (arith, six, m))))
        at c (no p) = none-added c (λ q. p (sym q)) (account_in xs c) ∙ sym (get_or-set_other xs e.member c _ no_account p)

    pub nothing-adds : 6 ≤ e.member → (xs : List Account) → length xs ≡ 6 → xs ≡ accounts_after b e xs
    unfolding accounts_after
    nothing-adds m xs six = sym (tab-same 6 _ xs no_account six (λ c h. none-added c (λ q. omega (arith, q, m, h)) (account_in xs c)))
