-- A board in range, part by part. The repair leaves such a board alone, and makes one.
-- Assumes nothing.
use mathlib.Core.Path.{◌≡◌}
use mathlib.Core.Bool.{true, and-eq-true_iff}
use Prim.Native.Nat.{ℕ, ◌<◌}
use lib.ListN.{length}
use borrow.Author.Tests.{eqb-true, eq-eqb}
use Rattle.words.proofs.Every.{every-at, every-by}
use Rattle.words.proofs.Tables.{tab-same, length-tab, get_or-tab}
use Rattle.counter.specs.Repair.{channel_in_range, repaired, no_channel}
use Rattle.counter.proofs.Same.{ChannelInRange, channel-fields, channel-whole, channel-same, channel-repaired}
use Rattle.ports.specs.Pins.{pins_in_range}
use Rattle.ports.proofs.Same.{PinsInRange, pins-fields, pins-whole, pins-same, pins-repaired, VirtualsInRange, virtuals-fields, virtuals-whole, virtuals-same, virtuals-repaired}
use Rattle.control.proofs.Same.{CoreInRange, core-fields, core-whole, core-same, core-repaired}
use Rattle.board.specs.Inputs.{channel_in}
use Rattle.board.specs.Handed.{in_range, repaired_board}
use Rattle.board.specs.declared.Board.{Board}

pub record InRange (b : Board) : Type 0 where
  pub six : length b.channels ≡ 6
  pub channels : (c : ℕ) → c < 6 → ChannelInRange (channel_in b.channels c)
  pub pins : PinsInRange b.pins
  pub virtuals : VirtualsInRange b.virtuals
  pub core : CoreInRange b.core

module _ (b : Board) where
  pub board-fields : in_range b ≡ true → InRange b
  unfolding in_range
  board-fields h =
      let h₄ = (and-eq-true_iff _ _).0 h in
      let h₃ = (and-eq-true_iff _ _).0 h₄.0 in
      let h₂ = (and-eq-true_iff _ _).0 h₃.0 in
      let h₁ = (and-eq-true_iff _ _).0 h₂.0 in
      record {
        six = eqb-true _ 6 h₁.0;
        channels = λ c k. channel-fields _ (every-at 6 _ h₁.1 c k);
        pins = pins-fields b.pins h₂.1;
        virtuals = virtuals-fields b.virtuals h₃.1;
        core = core-fields b.core h₄.1;
      }

  pub board-pins : in_range b ≡ true → pins_in_range b.pins ≡ true
  board-pins h = pins-whole b.pins (board-fields h).pins

  pub board-whole : InRange b → in_range b ≡ true
  unfolding in_range
  board-whole r =
      rw (eq-eqb (length b.channels) 6 r.six, pins-whole b.pins r.pins, virtuals-whole b.virtuals r.virtuals, core-whole b.core r.core)
      (rw (every-by 6 (λ c. channel_in_range (channel_in b.channels c)) (λ c k. channel-whole _ (r.channels c k))))

  pub board-same : in_range b ≡ true → repaired_board b ≡ b
  unfolding repaired_board
  board-same h =
      let r = board-fields h in
      let channels = tab-same 6 (λ c. repaired (channel_in b.channels c)) b.channels no_channel r.six (λ c k. channel-same _ (channel-whole _ (r.channels c k))) in
      rw (channels, pins-same b.pins (pins-whole _ r.pins), virtuals-same b.virtuals (virtuals-whole _ r.virtuals), core-same b.core (core-whole _ r.core))

pub board-repaired : (b : Board) → in_range (repaired_board b) ≡ true
unfolding repaired_board
board-repaired b = board-whole (repaired_board b) (record {
  six = length-tab 6 _;
  channels = λ c k. rw get_or-tab (channel-fields _ (channel-repaired (channel_in b.channels c)));
  pins = pins-fields _ (pins-repaired b.pins);
  virtuals = virtuals-fields _ (virtuals-repaired b.virtuals);
  core = core-fields _ (core-repaired b.core);
})
