-- The results that tell a refusal, as document 01 and request 5 have them.
-- Assumes nothing.
use Rattle.std.specs.Prelude.{ℕ, ◌≡◌, Option, Some, None}
use Rattle.calls.specs.declared.refusal.Refusal.{Refusal}
use Rattle.calls.specs.declared.refusal.Refusal.TheVariants.{Member, Kind, Field, Running, Empty, Lost, Enabled, Barred}

abbrev pub code_of : Refusal → ℕ
code_of Member = 1
code_of Kind = 2
code_of Field = 3
code_of Running = 4
code_of Empty = 5
code_of Lost = 6
code_of Enabled = 7
code_of Barred = 12

abbrev pub HasCode : Refusal → ℕ → Type 0
HasCode refusal result = result ≡ code_of refusal

-- the result of an event that the checks refuse, 0 where they find nothing
abbrev pub result_of : Option Refusal → ℕ
result_of None = 0
result_of (Some refusal) = code_of refusal
