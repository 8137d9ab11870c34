-- Document 01, "Mode word", quadrature: the transitions of the lines A and B between two steps.
-- Assumes nothing.
use Rattle.std.specs.Prelude.{ℕ, ◌+◌, ◌-◌, ◌%◌, Bool, cond, not, ◌&&◌, ◌||◌, ℤ, pos, negsuc, Option, Some, None, ◌==◌}
use Rattle.std.specs.Bool.{beq}
use Rattle.counter.specs.Samples.{line_a, line_b}

-- the place of a sample's lines in the cycle of (A, B): 00, 10, 11, 01
abbrev pub phase : ℕ → ℕ
phase s = cond (line_b s) (cond (line_a s) 2 3) (cond (line_a s) 1 0)

-- one place on in the cycle is +1, one back −1; no change is 0, and so is a change of both
abbrev pub quadrature : ℕ → ℕ → ℤ
quadrature before now =
    cond ((phase now + 4 - phase before) % 4 == 1) (pos 1) (cond ((phase now + 4 - phase before) % 4 == 3) (negsuc 0) (pos 0))

-- a quadrature error: both lines changed
abbrev pub both_changed : ℕ → ℕ → Bool
both_changed before now = not (beq (line_a before) (line_a now)) && not (beq (line_b before) (line_b now))

-- the entry of the table for a transition: none for an error
unfoldable pub transition : ℕ → ℕ → Option ℤ
transition before now = cond (both_changed before now) None (Some (quadrature before now))

-- which transitions the clock K keeps: 7 all, 6 those where A changes, 5 those between 00 and 10
abbrev pub keeps : ℕ → ℕ → ℕ → Bool
keeps k before now =
    (k == 7) || (k == 6 && not (beq (line_a before) (line_a now))) || (k == 5 && not (line_b before) && not (line_b now))
