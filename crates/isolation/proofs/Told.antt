-- The settings that the events up to a board told are the board's.
-- Assumes nothing.
use mathlib.Core.Path.{◌≡◌, refl}
use Prim.Native.Nat.{ℕ, ◌<◌}
use Rattle.ports.specs.Pins.{pin_at}
use Rattle.board.specs.Inputs.{channel_in}
use Rattle.board.specs.declared.Board.{Board}
use Rattle.isolation.specs.Settings.{Settings}

pub record Told (t : Settings) (b : Board) : Type 0 where
  pub mode : (c : ℕ) → c < 6 → (channel_in b.channels c).mode ≡ t.mode c
  pub route : (c : ℕ) → c < 6 → (channel_in b.channels c).route ≡ t.route c
  pub source : (p : ℕ) → p < 48 → (pin_at b.pins p).source ≡ t.source p
  pub control : b.core.safety.control ≡ t.control

-- the settings as a board has them
abbrev pub settings_of : Board → Settings
settings_of b =
    record {
      mode = λ c. (channel_in b.channels c).mode;
      route = λ c. (channel_in b.channels c).route;
      source = λ p. (pin_at b.pins p).source;
      control = b.core.safety.control;
    }

pub settings-told : (b : Board) → Told (settings_of b) b
settings-told b = record { mode = λ c h. refl; route = λ c h. refl; source = λ p h. refl; control = refl }
