-- The clauses of closed members as tests, so that a list can be computed. What they decide is proved in proofs/Tests.antt.
-- Assumes nothing.
use Rattle.std.specs.Prelude.{◌≡◌, Bool, true, not, ◌&&◌, ◌||◌, List, [], ◌∷◌, ℕ, zero, suc, ◌-◌, eqb, ltb}
use Rattle.words.specs.Bits.{every}
use Rattle.counter.specs.Mode.{XS, K}
use Rattle.control.specs.Safety.{pin_triggers}
use Rattle.calls.specs.declared.Reply.{Reply}
use Rattle.calls.specs.declared.Answer.{Answer}
use Rattle.calls.specs.declared.Event.{Event}
use Rattle.board.specs.Inputs.{neighbour}
use Rattle.board.specs.Handed.{reset_board}
use Rattle.board.specs.declared.Board.{Board}
use Rattle.isolation.specs.Members.{Members}
use Rattle.isolation.specs.Settings.{Settings, untold, told}
use Rattle.isolation.specs.Claim.{ClosedThroughout}

unfoldable pub all : List Bool → Bool
all [] = true
all (t ∷ ts) = t && all ts

abbrev pub implies : Bool → Bool → Bool
implies s t = not s || t

module _ (M : Members) (s : Settings) where
  -- each clause of `Closed`, at one channel or pin
  abbrev pub carrying_at : ℕ → Bool
  carrying_at c = implies (M.is_channel c && eqb (K (s.mode c)) 4) (M.is_channel (neighbour c))

  abbrev pub indexing_at : ℕ → Bool
  indexing_at c = implies (M.is_channel c && ltb 1 (XS (s.mode c)) && ltb (XS (s.mode c)) 8) (M.is_channel (XS (s.mode c) - 2))

  abbrev pub routed_pin_at : ℕ → Bool
  routed_pin_at c = implies (M.is_channel c && ltb (s.route c) 48) (M.is_pin (s.route c))

  abbrev pub routed_virtual_at : ℕ → Bool
  routed_virtual_at c = implies (M.is_channel c && ltb 47 (s.route c) && ltb (s.route c) 54) (M.is_virtual (s.route c - 48))

  abbrev pub driving_at : ℕ → Bool
  driving_at p = implies (M.is_pin p && ltb 0 (s.source p) && ltb (s.source p) 7) (M.is_channel (s.source p - 1))

  -- the six clauses, in their order
  unfoldable pub clauses : List Bool
  clauses =
      every 6 carrying_at
      ∷ every 6 indexing_at
      ∷ every 6 routed_pin_at
      ∷ every 6 routed_virtual_at
      ∷ every 48 driving_at
      ∷ implies (pin_triggers s.control) (M.is_pin 47)
      ∷ []

-- those other than the one in place k
unfoldable pub without : ℕ → List Bool → List Bool
without k [] = []
without zero (t ∷ ts) = ts
without (suc k) (t ∷ ts) = t ∷ without k ts

-- a test that holds after every event, as `AfterEach` has it
module _ {S E T : Type 0} (machine : S → E → Reply S) (tell : T → E → Answer → T) (test : T → Bool) where
  unfoldable pub after_each : T → S → List E → Bool
  after_each t s [] = true
  after_each t s (e ∷ es) =
      let r : Reply S = machine s e in
      test (tell t e r.answer) && after_each (tell t e r.answer) r.state es

module _ (machine : Board → Event → Reply Board) (M : Members) where
  -- every clause holds after every event of a list from reset
  abbrev pub is_closed_throughout : List Event → Bool
  is_closed_throughout es = after_each machine told (λ s. all (clauses M s)) untold reset_board es

  -- every clause but, it may be, the one in place k
  abbrev pub is_closed_but : ℕ → List Event → Bool
  is_closed_but k es = after_each machine told (λ s. all (without k (clauses M s))) untold reset_board es

-- the test of a list is the claim's condition
abbrev pub Decided : Type 0
Decided =
    (machine : Board → Event → Reply Board) (M : Members) (es : List Event)
    → (is_closed_throughout machine M es ≡ true → ClosedThroughout machine M es) × (ClosedThroughout machine M es → is_closed_throughout machine M es ≡ true)
