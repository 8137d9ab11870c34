-- An answer, and what a call makes of a record with it.
-- Assumes nothing.
use Rattle.std.specs.Prelude.{ℕ}
use Rattle.calls.specs.declared.Answer.{Answer}
use Rattle.calls.specs.declared.Reply.{Reply}

abbrev pub reply : {X : Type 0} → X → Answer → Reply X
reply x a = record { state = x; answer = a }

-- a result and a value; timestamp and reason 0
abbrev pub number : ℕ → ℕ → Answer
number r v = record { result = r; value = v; timestamp = 0; reason = 0 }

-- a refusal leaves the record as it was
abbrev pub refuse : {X : Type 0} → ℕ → X → Reply X
refuse r x = reply x (number r 0)

abbrev pub accept : {X : Type 0} → X → Reply X
accept x = reply x (number 0 0)

abbrev pub tell : {X : Type 0} → ℕ → X → Reply X
tell v x = reply x (number 0 v)
