-- What is shown of the reply of every call: the record stays in range, and only the answers 0 and 6 change it.
-- Assumes nothing.
use mathlib.Core.Path.{◌≡◌, sym, ◌∙◌}
use mathlib.Core.Bool.{true, false, true≢false}
use Prim.Native.Nat.{ℕ}
use lib.Dec.{eqb}
use Rattle.calls.specs.Reply.{reply, refuse}
use Rattle.calls.specs.declared.Reply.{Reply}

-- In is the range; Same is what an answer other than 0 and 6 leaves, and Lost what an answer 6 leaves
pub record Sound {X : Type 0} (In Same Lost : X → Type 0) (r : Reply X) : Type 0 where
  pub ranged : In r.state
  pub refused : eqb r.answer.result 0 ≡ false → eqb r.answer.result 6 ≡ false → Same r.state
  pub lost : eqb r.answer.result 6 ≡ true → Lost r.state

-- there is no such answer
abbrev pub Never : {X : Type 0} → X → Type 0
Never x = ⊥

module _ {X : Type 0} {In Same Lost : X → Type 0} where
  pub refusal : (n : ℕ) (x : X) → eqb n 6 ≡ false → In x → Same x → Sound In Same Lost (refuse n x)
  refusal n x h p s = record { ranged = p; refused = λ i j. s; lost = λ j. absurd (true≢false (sym j ∙ h)) }

  -- an answer 0
  pub done : {x : X} {value timestamp reason : ℕ} → In x → Sound In Same Lost (reply x (record { result = 0; value = value; timestamp = timestamp; reason = reason }))
  done p = record { ranged = p; refused = λ i j. absurd (true≢false i); lost = λ j. absurd (true≢false (sym j)) }

-- a reply about a part, put back into the whole
pub put_back : {X Y : Type 0} (g : X → Y) {In Same Lost : X → Type 0} {In' Same' Lost' : Y → Type 0} (r : Reply X) → Sound In Same Lost r
    → ((x : X) → In x → In' (g x)) → ((x : X) → Same x → Same' (g x)) → ((x : X) → Lost x → Lost' (g x))
    → Sound In' Same' Lost' (reply (g r.state) r.answer)
put_back g r s p q l =
    record { ranged = p _ s.ranged; refused = λ i j. q _ (s.refused i j); lost = λ j. l _ (s.lost j) }
