-- A machine over lists of events: each event gets the state that the event before it left; and what is left of a list when some events are struck
-- out by their answers.
-- Assumes nothing.
use Rattle.std.specs.Prelude.{Bool, cond, List, [], ◌∷◌}
use Rattle.calls.specs.declared.Reply.{Reply}
use Rattle.calls.specs.declared.Answer.{Answer}

module _ {S E : Type 0} (machine : S → E → Reply S) where
  -- the state after the last event
  unfoldable pub finish : S → List E → S
  finish s [] = s
  finish s (e ∷ es) = finish (machine s e).state es

  -- the state and the answer after each event
  unfoldable pub replies : S → List E → List (Reply S)
  replies s [] = []
  replies s (e ∷ es) = machine s e ∷ replies (machine s e).state es

  -- the events that are not struck out, each as `shown` has it
  unfoldable pub remainder : (E → Answer → Bool) → (E → E) → S → List E → List E
  remainder struck shown s [] = []
  remainder struck shown s (e ∷ es) =
      let r : Reply S = machine s e in
      let rest : List E = remainder struck shown r.state es in
      cond (struck e r.answer) rest (shown e ∷ rest)
