-- Request 7: accounts that are computed on the definition of the machine, and machines that the claim rules out.
-- Assumes nothing.
use Rattle.std.specs.Prelude.{◌≡◌, cond, ◌&&◌, List, [], ◌∷◌, ◌++◌, ℕ, zero, suc, ◌-◌, eqb, replicate}
use Rattle.words.specs.Table.{tab}
use Rattle.counter.specs.Setters.{with_lost}
use Rattle.calls.specs.Reply.{reply, number}
use Rattle.calls.specs.declared.Reply.{Reply}
use Rattle.calls.specs.Events.{call, lines}
use Rattle.calls.specs.declared.Event.{Event}
use Rattle.board.specs.Inputs.{channel_in}
use Rattle.board.specs.Respond.{with_channels, respond}
use Rattle.board.specs.Handed.{reset_board}
use Rattle.board.specs.declared.Board.{Board}
use Rattle.account.specs.Accounts.{balance}
use Rattle.account.specs.Claim.{Accounted}
use Rattle.account.specs.declared.Balance.{Balance}

-- ---- accounts

abbrev pub numbers : ℕ → ℕ → ℕ → ℕ → ℕ → Balance
numbers made handed held reported unreported =
    record { made = made; handed = handed; held = held; reported = reported; unreported = unreported }

abbrev pub reads : ℕ → ℕ → List Event
reads c n = replicate n (call 11 c 0)

-- seventeen soft snapshots of channel 2, which is halted
abbrev pub snapshots : List Event
snapshots = replicate 17 (call 8 2 0)

-- n pulses of the index of channel 1, a step high and a step low
abbrev pub pulses : ℕ → List Event
pulses zero = []
pulses (suc n) = lines 32 0 ∷ lines 0 0 ∷ pulses n

-- channel 1 with this mask, started, and then so many pulses
abbrev pub edges : ℕ → ℕ → List Event
edges mask n = call 5 1 mask ∷ call 6 1 0 ∷ pulses n

-- channel 0 counts every step, with compare 0 at 2 and this mask: a match in step 2, and in the same step the index rises
abbrev pub matching : ℕ → List Event
matching mask = call 1 0 0x30 ∷ call 3 0 2 ∷ call 5 0 mask ∷ call 6 0 0 ∷ lines 0 0 ∷ lines 4 0 ∷ lines 0 0 ∷ []

abbrev pub after : List Event → ℕ → Balance
after = balance respond reset_board

pub record Computed : Type 0 where
  -- sixteen are held and one is lost; the read tells so and hands nothing out, the next one does
  pub unread : after snapshots 2 ≡ numbers 17 0 16 0 1
  pub told : after (snapshots ++ reads 2 1) 2 ≡ numbers 17 0 16 1 0
  pub read : after (snapshots ++ reads 2 2) 2 ≡ numbers 17 1 15 1 0
  -- another channel has no part in it
  pub other : after (snapshots ++ reads 2 2) 3 ≡ numbers 0 0 0 0 0
  -- the rising and the falling edge of ten pulses
  pub both : after (edges 0x18 10 ++ reads 1 3) 1 ≡ numbers 20 2 14 4 0
  -- the rising one alone; of seventeen reads ten find an entry
  pub rising : after (edges 0x10 10 ++ reads 1 17) 1 ≡ numbers 10 10 0 0 0
  -- no mask bit, that of soft alone, and a channel that is not started
  pub unmasked : after (edges 0 10) 1 ≡ numbers 0 0 0 0 0
  pub soft_alone : after (edges 0x80 10) 1 ≡ numbers 0 0 0 0 0
  pub halted : after (call 5 1 0x18 ∷ pulses 10) 1 ≡ numbers 0 0 0 0 0
  -- two reasons in one step are one capture
  pub together : after (matching 0x11) 0 ≡ numbers 1 0 1 0 0
  -- and with the falling edge there are two
  pub apart : after (matching 0x19) 0 ≡ numbers 2 0 2 0 0
  -- a match that finds sixteen entries is made, though lost and without a pulse (request 1)
  pub lost_match : after (replicate 16 (call 8 0 0) ++ matching 1) 0 ≡ numbers 17 0 16 0 1
  -- a refused soft snapshot makes none
  pub refused : after (call 8 2 1 ∷ call 8 6 0 ∷ []) 2 ≡ numbers 0 0 0 0 0

-- ---- machines that the claim rules out

-- a lost capture is not counted
unfoldable pub forgetting : Board → Event → Reply Board
forgetting b e =
    let r : Reply Board = respond b e in
    cond (eqb e.kind 11) r
    (reply (with_channels (tab 6 (λ c. with_lost (channel_in b.channels c).lost (channel_in r.state.channels c))) r.state) r.answer)

-- result 6 reports one less
unfoldable pub belittling : Board → Event → Reply Board
belittling b e =
    let r : Reply Board = respond b e in
    cond (eqb r.answer.result 6) (reply r.state (number 6 (r.answer.value - 1))) r

-- an entry that is handed out stays
unfoldable pub repeating : Board → Event → Reply Board
repeating b e =
    let r : Reply Board = respond b e in
    cond (eqb e.kind 11 && eqb r.answer.result 0) (reply b r.answer) r

-- the account of channel 2 on such a machine does not add up, so that the claim is false of it
abbrev pub Refuting : (Board → Event → Reply Board) → List Event → Balance → Type 0
Refuting machine es n = (balance machine reset_board es 2 ≡ n) × (Accounted machine → ⊥)

pub record RuledOut : Type 0 where
  pub forgets : Refuting forgetting (snapshots ++ reads 2 1) (numbers 17 1 15 0 0)
  pub belittles : Refuting belittling (snapshots ++ reads 2 1) (numbers 17 0 16 0 0)
  pub repeats : Refuting repeating (snapshots ++ reads 2 2) (numbers 17 1 16 1 0)
