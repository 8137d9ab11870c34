-- The answers that the events of a remainder got in the whole list, and what holds after every event of a list, on any machine.
-- Assumes nothing.
use Rattle.std.specs.Prelude.{Bool, cond, List, [], ◌∷◌, map}
use Rattle.calls.specs.declared.Reply.{Reply}
use Rattle.calls.specs.declared.Answer.{Answer}
use Rattle.board.specs.Runs.{replies}

-- S the states, E the events
module _ {S E : Type 0} (machine : S → E → Reply S) where
  -- the answers to all events
  abbrev pub all_answers : S → List E → List Answer
  all_answers s es = map (λ (r : Reply S). r.answer) (replies machine s es)

  -- the answers that the events of the remainder got in the whole list
  unfoldable pub kept_answers : (E → Answer → Bool) → S → List E → List Answer
  kept_answers struck s [] = []
  kept_answers struck s (e ∷ es) =
      let r : Reply S = machine s e in
      let rest : List Answer = kept_answers struck r.state es in
      cond (struck e r.answer) rest (r.answer ∷ rest)

  -- P holds after every event of what the events and their answers tell, which is of type T and changes by `tell`
  abbrev pub AfterEach : {T : Type 0} → (T → E → Answer → T) → (T → Type 0) → T → S → List E → Type 0
  AfterEach tell P t s [] = Unit
  AfterEach tell P t s (e ∷ es) =
      let r : Reply S = machine s e in
      P (tell t e r.answer) × AfterEach tell P (tell t e r.answer) r.state es
