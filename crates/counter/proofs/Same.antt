-- A channel in range, field by field. The repair leaves such a channel alone, and makes one.
-- Assumes nothing.
use Rattle.std.proofs.Common.{◌≡◌, true, refl}
use mathlib.Core.Bool.{and-eq-true_iff}
use Rattle.words.proofs.Every.{reset-good, AllGood, good-each, good-all, good-same, good-reset}
use Rattle.counter.specs.Mode.{good_mode}
use Rattle.counter.specs.Repair.{reset_channel, is_route, is_reasons, is_kept, is_carry, is_held, channel_in_range, repaired}
use Rattle.counter.specs.declared.Channel.{Channel}

pub record ChannelInRange (c : Channel) : Type 0 where
  pub mode : good_mode c.mode ≡ true
  pub route : is_route c.route ≡ true
  pub mask : is_reasons c.mask ≡ true
  pub kept : is_kept c.kept ≡ true
  pub held : is_held c.held ≡ true
  pub carry : is_carry c.carry ≡ true
  pub reasons : AllGood is_reasons 16 c.reasons

module _ (c : Channel) where
  pub channel-fields : channel_in_range c ≡ true → ChannelInRange c
  unfolding channel_in_range
  channel-fields h =
      let h₆ = (and-eq-true_iff _ _).0 h in
      let h₅ = (and-eq-true_iff _ _).0 h₆.0 in
      let h₄ = (and-eq-true_iff _ _).0 h₅.0 in
      let h₃ = (and-eq-true_iff _ _).0 h₄.0 in
      let h₂ = (and-eq-true_iff _ _).0 h₃.0 in
      let h₁ = (and-eq-true_iff _ _).0 h₂.0 in
      record {
        mode = h₁.0;
        route = h₁.1;
        mask = h₂.1;
        kept = h₃.1;
        held = h₄.1;
        carry = h₅.1;
        reasons = good-each h₆.1;
      }

  pub channel-whole : ChannelInRange c → channel_in_range c ≡ true
  unfolding channel_in_range
  channel-whole r = rw (r.mode, r.route, r.mask, r.kept, r.held, r.carry, good-all r.reasons)

  pub channel-same : channel_in_range c ≡ true → repaired c ≡ c
  unfolding repaired
  channel-same h = let r = channel-fields h in rw (r.mode, r.route, r.mask, r.kept, r.held, r.carry, good-same 0 r.reasons)

pub channel-repaired : (c : Channel) → channel_in_range (repaired c) ≡ true
unfolding repaired reset_channel
channel-repaired c = channel-whole (repaired c) (record {
  mode = reset-good good_mode 0 refl c.mode;
  route = reset-good is_route 54 refl c.route;
  mask = reset-good is_reasons 0 refl c.mask;
  kept = reset-good is_kept 0 refl c.kept;
  held = reset-good is_held 0 refl c.held;
  carry = reset-good is_carry _ refl c.carry;
  reasons = good-reset is_reasons 0 16 c.reasons refl;
})
