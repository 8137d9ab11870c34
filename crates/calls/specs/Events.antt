-- Events written down for the tables that are computed.
-- Assumes nothing.
use Rattle.std.specs.Prelude.{ℕ}
use Rattle.calls.specs.declared.Event.{Event}

-- a call of kind k on member m with selector s and argument v
abbrev pub register : ℕ → ℕ → ℕ → ℕ → Event
register k m s v = record { kind = k; member = m; selector = s; spare = 0; v = v; w = 0 }

-- with selector 0
abbrev pub call : ℕ → ℕ → ℕ → Event
call k m v = register k m 0 v

-- a step
abbrev pub lines : ℕ → ℕ → Event
lines v w = record { kind = 0; member = 0; selector = 0; spare = 0; v = v; w = w }
