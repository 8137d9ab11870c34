-- Document 01, "Outsiders": the members of a list's claim.
-- Assumes nothing.
use Rattle.std.specs.Prelude.{Bool, ℕ}

-- any set of channels, pins and virtual outputs, each by its number; all others are outsiders
pub record Members : Type 0 where
  pub is_channel : ℕ → Bool
  pub is_pin : ℕ → Bool
  pub is_virtual : ℕ → Bool
