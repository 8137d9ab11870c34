-- Document 01, "Outsiders": when members are closed. The settings alone decide: a channel that is halted or does not use its index, its ExtIn
-- or its carries is bound by them too.
-- Assumes nothing.
use Rattle.std.specs.Prelude.{◌≡◌, true, ℕ, ◌-◌, ◌≤◌, ◌<◌}
use Rattle.counter.specs.Mode.{XS, K}
use Rattle.control.specs.Safety.{pin_triggers}
use Rattle.board.specs.Inputs.{neighbour}
use Rattle.isolation.specs.Members.{Members}
use Rattle.isolation.specs.Settings.{Settings}

pub record Closed (M : Members) (s : Settings) : Type 0 where
  -- a member channel's neighbour, where K is 4
  pub carrying : (c : ℕ) → c < 6 → M.is_channel c ≡ true → K (s.mode c) ≡ 4 → M.is_channel (neighbour c) ≡ true
  -- the channel whose ExtOut is a member channel's index, XS 2 to 7
  pub indexing : (c : ℕ) → c < 6 → M.is_channel c ≡ true → 2 ≤ XS (s.mode c) → XS (s.mode c) ≤ 7 → M.is_channel (XS (s.mode c) - 2) ≡ true
  -- the pin that is routed to a member channel, route 0 to 47
  pub routed_pin : (c : ℕ) → c < 6 → M.is_channel c ≡ true → s.route c ≤ 47 → M.is_pin (s.route c) ≡ true
  -- the virtual output that is routed to a member channel, route 48 to 53
  pub routed_virtual : (c : ℕ) → c < 6 → M.is_channel c ≡ true → 48 ≤ s.route c → s.route c ≤ 53 → M.is_virtual (s.route c - 48) ≡ true
  -- the channel that is a member pin's source, source 1 to 6
  pub driving : (p : ℕ) → p < 48 → M.is_pin p ≡ true → 1 ≤ s.source p → s.source p ≤ 6 → M.is_channel (s.source p - 1) ≡ true
  -- pin 47, while control bit 0 lets it trigger safemode
  pub triggering : pin_triggers s.control ≡ true → M.is_pin 47 ≡ true
