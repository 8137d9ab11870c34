-- Two boards that look alike to the members: equal records of every member, and an equal part of the board's own.
-- Assumes nothing.
use mathlib.Core.Path.{◌≡◌, refl, sym, ◌∙◌}
use Rattle.ports.specs.Pins.{whole_at}
use Rattle.ports.specs.Virtuals.{virtual_at}
use Rattle.board.specs.Inputs.{channel_in}
use Rattle.board.specs.declared.Board.{Board}
use Rattle.isolation.specs.Members.{Members}
use Rattle.isolation.proofs.Stores.{Agree}

pub record Seen (M : Members) (x y : Board) : Type 0 where
  pub channels : Agree 6 channel_in M.is_channel x.channels y.channels
  pub pins : Agree 48 whole_at M.is_pin x.pins y.pins
  pub virtuals : Agree 6 virtual_at M.is_virtual x.virtuals y.virtuals
  pub core : x.core ≡ y.core

pub seen-itself : (M : Members) (x : Board) → Seen M x x
seen-itself M x = record { channels = λ c k m. refl; pins = λ p k m. refl; virtuals = λ o k m. refl; core = refl }

-- two boards that look like a third
pub seen-by-both : (M : Members) (x y z : Board) → Seen M x z → Seen M y z → Seen M x y
seen-by-both M x y z a b = record {
  channels = λ c k m. a.channels c k m ∙ sym (b.channels c k m);
  pins = λ p k m. a.pins p k m ∙ sym (b.pins p k m);
  virtuals = λ o k m. a.virtuals o k m ∙ sym (b.virtuals o k m);
  core = a.core ∙ sym b.core;
}
