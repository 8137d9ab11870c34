-- Request 1: every pulse has an entry, and every entry of a match a pulse.
-- Assumes nothing.
use mathlib.Core.Path.{◌≡◌, refl, sym, ◌∙◌}
use mathlib.Core.Bool.{Bool, true, false, not, ◌&&◌, beq, false≢true}
use mathlib.Core.Logic.Iff
use mathlib.Core.Logic.{◌↔◌, ◌⊎◌, inl, inr, ⊎_elim}
use mathlib.Core.List.{List}
use Prim.Native.Nat.{ℕ, ◌+◌, ◌-◌, ◌<◌}
use native.Mathlib.Omega.{arith}
use lib.Dec.{eqb, ltb}
use lib.ListN.{length, get_or, set}
use lib.Seq.{get_or-set_same}
use borrow.Author.Tests.{ltb-true}
use Rattle.words.proofs.Cases.{tested, either}
use Rattle.words.proofs.Tables.{get_or-tab}
use Rattle.counter.specs.Mode.{OM, OP}
use Rattle.counter.specs.Queue.{captured}
use Rattle.counter.specs.Advance.{Inputs, recorded, is_match, look, next_of, settled, step, advance}
use Rattle.counter.specs.declared.Channel.{Channel}
use Rattle.counter.specs.declared.Capture.{Capture}
use Rattle.counter.specs.declared.Next.{Next}
use Rattle.counter.proofs.Same.{ChannelInRange, channel-fields}
use Rattle.board.specs.Inputs.{channel_in, channel_next, all_next}
use Rattle.board.specs.Step.{step_with, stepped}
use Rattle.board.specs.Handed.{in_range}
use Rattle.board.specs.declared.Board.{Board}
use Rattle.board.proofs.Same.{InRange, board-fields, board-repaired}
use Rattle.reach.proofs.Reach.{demand2}
use Rattle.requests.specs.Pulse.{last_reasons, EntryOfMatch, Pulse, OnBoards, Request1}
use Rattle.requests.specs.Steps.{InSteps}
use Rattle.requests.proofs.Steps.{in-steps, in-steps-handed}

-- a stored capture is the last entry of a queue that is longer by one; after another the queue is as long as before
abbrev Stored : Channel → ℕ → Capture → Type 0
Stored c reasons t = (t.stored ≡ true) × (t.channel.held ≡ c.held + 1) × (last_reasons t.channel ≡ reasons)

abbrev NotStored : Channel → Capture → Type 0
NotStored c t = (t.stored ≡ false) × (t.channel.held ≡ c.held)

-- an element put at the end of a queue of i entries is the last one of i + 1
last-put : (l : List ℕ) (i a : ℕ) → i < length l → get_or (set l i a) (i + 1 - 1) 0 ≡ a
last-put l i a h =
    let end : i + 1 - 1 ≡ i = omega arith in
    rw end (get_or-set_same l i a 0 h)

-- what OP makes of a pulse is not what it makes of none
active : (p op : Bool) → (not (beq p op) ≡ not op) ↔ (p ≡ true)
active true true = (λ _. refl, λ _. refl)
active true false = (λ _. refl, λ _. refl)
active false true = (sym, sym)
active false false = Iff.rfl

module _ (c : Channel) (r : ChannelInRange c) (timestamp : ℕ) (n : Next) where
  -- what the capture of a step tells is so
  told : Stored c n.caught (recorded timestamp n c) ⊎ NotStored c (recorded timestamp n c)
  unfolding captured
  told =
      let Told : Capture → Type 0 = λ t. Stored c n.caught t ⊎ NotStored c t in
      either Told (eqb n.caught 0) (inr (refl, refl))
      (tested Told (ltb c.held 16) (λ h. inl (refl, refl, last-put c.reasons c.held n.caught (omega (arith, ltb-true c.held 16 h, r.reasons.places)))) (λ h. inr (refl, refl)))

  abbrev pulse : Bool
  pulse = (recorded timestamp n c).stored && is_match n.caught

  -- so the pulse is in the queue
  pulsed : (now : ℕ) → (pulse ≡ true) ↔ EntryOfMatch c (settled now timestamp n c)
  unfolding settled
  pulsed now =
      ⊎_elim
      (λ t. (
        (λ p. record { longer = t.1; matched = rw t.2 (rw t.0 at p) }),
        (λ q. rw t.0 (rw t.2 at q.matched)),
      ))
      (λ t. (
        (λ p. absurd (false≢true (rw t.0 at p))),
        (λ q. absurd (omega (arith, t.1, q.longer))),
      ))
      told

  -- and OM 1 shows it
  shown_by : (now : ℕ) → OM c.mode ≡ 1 → (settled now timestamp n c).extout ≡ not (beq pulse (OP c.mode))
  unfolding settled
  shown_by now om = rw om

  settled-pulse : (now : ℕ) → OM c.mode ≡ 1 → Pulse c (settled now timestamp n c)
  settled-pulse now om =
      let shown = shown_by now om in
      let on = active pulse (OP c.mode) in
      (λ x. (pulsed now).0 (on.0 (sym shown ∙ x)), λ q. shown ∙ on.1 ((pulsed now).1 q))

-- ---- in a step of a channel

channel-pulse : (c : Channel) → ChannelInRange c → OM c.mode ≡ 1 → (i : Inputs) → Pulse c (advance i c)
unfolding advance step
channel-pulse c r om i = settled-pulse c r i.timestamp (next_of i.now (look i.now i.carried i.rises c) c) i.now om

-- ---- in an accepted step of a board

stepped-pulse : (b : Board) → InRange b → (v w : ℕ) → OnBoards b (stepped v w b)
unfolding stepped step_with all_next channel_next
stepped-pulse b r v w c h om = rw get_or-tab (channel-pulse (channel_in b.channels c) (r.channels c h) om _)

board-pulse : (b : Board) → in_range b ≡ true → InSteps OnBoards b
board-pulse b r = in-steps OnBoards b (stepped-pulse b (board-fields b r))

pub request1 : Request1
request1 = record {
  channels = λ c r. channel-pulse c (channel-fields c r);
  boards = board-pulse;
  handed = λ b. in-steps-handed OnBoards b (board-pulse _ (board-repaired b));
  lists = λ es. board-pulse _ (demand2.1 es).last;
}
