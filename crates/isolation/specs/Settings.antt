-- Document 01, "Outsiders": mode, route, source and control as the list tells them. No board is read here.
-- Assumes nothing.
use Rattle.std.specs.Prelude.{Bool, cond, ◌&&◌, ℕ, eqb}
use Rattle.calls.specs.declared.Event.{Event}
use Rattle.calls.specs.declared.Answer.{Answer}

-- the mode and the route of each channel, the source of each pin, the control of the board
pub record Settings : Type 0 where
  pub mode : ℕ → ℕ
  pub route : ℕ → ℕ
  pub source : ℕ → ℕ
  pub control : ℕ

-- before the first such call: 0, the route 54
unfoldable pub untold : Settings
untold = record { mode = λ c. 0; route = λ c. 54; source = λ p. 0; control = 0 }

-- the event is call k on member i and was accepted, that is answered 0
abbrev pub is_accepted : ℕ → ℕ → Event → Answer → Bool
is_accepted k i e a = eqb e.kind k && eqb e.member i && eqb a.result 0

-- V of an accepted call k on member i, else what the events before told
unfoldable pub latest : ℕ → ℕ → Event → Answer → ℕ → ℕ
latest k i e a old = cond (is_accepted k i e a) e.v old

-- call 1 tells a channel's mode, 4 its route, 13 a pin's source, 22 the control, whose member is 0
unfoldable pub told : Settings → Event → Answer → Settings
told s e a =
    record {
      mode = λ c. latest 1 c e a (s.mode c);
      route = λ c. latest 4 c e a (s.route c);
      source = λ p. latest 13 p e a (s.source p);
      control = latest 22 0 e a s.control;
    }
