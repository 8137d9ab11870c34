-- Document 01, "Outsiders": what of the members is equal after the last events.
-- Assumes nothing.
use Rattle.std.specs.Prelude.{◌≡◌, Bool, true, List, ℕ, ◌<◌, get_or}
use Rattle.words.specs.Table.{tab}
use Rattle.counter.specs.declared.Channel.{Channel}
use Rattle.ports.specs.Pins.{WholePin, whole_at}
use Rattle.ports.specs.Virtuals.{virtual_at, virtual_level}
use Rattle.board.specs.Inputs.{channel_in}
use Rattle.board.specs.declared.Board.{Board}
use Rattle.isolation.specs.Members.{Members}

-- one capture
pub record Entry : Type 0 where
  pub count : ℕ
  pub timestamp : ℕ
  pub reasons : ℕ

-- the captures that a channel holds, the oldest first
unfoldable pub entries : Channel → List Entry
entries c =
    tab c.held (λ i. record { count = get_or c.counts i 0; timestamp = get_or c.timestamps i 0; reasons = get_or c.reasons i 0 })

pub record SameChannel (x y : Channel) : Type 0 where
  pub count : x.count ≡ y.count
  pub queue : entries x ≡ entries y
  pub lost : x.lost ≡ y.lost
  pub extout : x.extout ≡ y.extout

pub record SamePin (x y : WholePin) : Type 0 where
  -- what call 17 reads
  pub level : x.pin.level ≡ y.pin.level
  pub driven : x.pin.driven ≡ y.pin.driven
  -- request 6
  pub filter : x.filter ≡ y.filter
  pub wait : x.wait ≡ y.wait

-- the level of virtual output o, by the safemode that stands on the board
abbrev pub level_of : ℕ → Board → Bool
level_of o b = virtual_level b.core.safety.safemode (virtual_at b.virtuals o)

-- output o of two boards
pub record SameVirtual (x y : Board) (o : ℕ) : Type 0 where
  pub own : (virtual_at x.virtuals o).own ≡ (virtual_at y.virtuals o).own
  pub safedata : (virtual_at x.virtuals o).safedata ≡ (virtual_at y.virtuals o).safedata
  pub safeenable : (virtual_at x.virtuals o).safeenable ≡ (virtual_at y.virtuals o).safeenable
  pub level : level_of o x ≡ level_of o y

pub record SameMembers (M : Members) (x y : Board) : Type 0 where
  pub channels : (c : ℕ) → c < 6 → M.is_channel c ≡ true → SameChannel (channel_in x.channels c) (channel_in y.channels c)
  pub pins : (p : ℕ) → p < 48 → M.is_pin p ≡ true → SamePin (whole_at x.pins p) (whole_at y.pins p)
  pub virtuals : (o : ℕ) → o < 6 → M.is_virtual o ≡ true → SameVirtual x y o
