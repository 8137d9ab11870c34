-- `board::step::advance_all` meets its contract.
-- Assumes nothing.
use mathlib.Core.Path.{◌≡◌, ◌∙◌}
use mathlib.Core.List.{List, [], ◌∷◌}
use Prim.Native.Nat.{ℕ}
use lib.IntN.{ℤ}
use Rattle.board.specs.declared.Scene.{Scene}
use Rattle.board.specs.Inputs.{channel_in, neighbour, carried_by, samples_of, inputs_of, channel_next, all_next}
use Rattle.counter.proofs.Signed.{back}
use Rattle.counter.specs.declared.Seen.{Seen}
use Rattle.counter.specs.declared.Channel.{Channel}
use Rattle.words.specs.Table.{tab}
use Rattle.counter.specs.Advance.{look, step, advance}
use Rattle.board.proofs.step.advance_all.Goals as goal

module _ (s : Scene) (cs : List Channel) where
  -- one channel: its samples, the carry that it takes from its neighbour, what its lines tell, its next record
  one : (c : ℕ) (z y : ℤ) (w : ℕ) (k : Seen) (r : Channel)
      → w ≡ samples_of s c (channel_in cs c).mode (channel_in cs c).route
      → z ≡ (channel_in cs (neighbour c)).carry
      → y ≡ carried_by (channel_in cs c).mode z
      → k ≡ look w y s.rises (channel_in cs c)
      → r ≡ step w s.timestamp k (channel_in cs c)
      → r ≡ channel_next s cs c
  unfolding channel_next inputs_of advance
  one c z y w k r now carry taken seen next = rw (next, seen, taken, carry, now)

  all : (r₀ r₁ r₂ r₃ r₄ r₅ : Channel)
      → r₀ ≡ channel_next s cs 0 → r₁ ≡ channel_next s cs 1 → r₂ ≡ channel_next s cs 2 → r₃ ≡ channel_next s cs 3 → r₄ ≡ channel_next s cs 4 → r₅ ≡ channel_next s cs 5
      → (r₀ ∷ r₁ ∷ r₂ ∷ r₃ ∷ r₄ ∷ r₅ ∷ []) ≡ all_next s cs
  unfolding all_next tab
  all r₀ r₁ r₂ r₃ r₄ r₅ p₀ p₁ p₂ p₃ p₄ p₅ = λ i. p₀ i ∷ p₁ i ∷ p₂ i ∷ p₃ i ∷ p₄ i ∷ p₅ i ∷ []

pub returns : goal.returns
returns c =
    let a = c.args in
    let cs = a.old in
    all a.s cs _ _ _ _ _ _
    (one a.s cs 0 _ _ _ _ _ c.samples-w0.ensures (back (channel_in cs 5).carry c.struct_told-1.given.1.1.1.1.1.1.1.1.1.1.1.0.1) (back c.carried_by.result c.carried_by.type_inv ∙ c.carried_by.ensures) c.look-s0.ensures c.step-c0.ensures)
    (one a.s cs 1 _ _ _ _ _ c.samples-w1.ensures (back (channel_in cs 0).carry c.struct_told-2-1.given.1.1.1.1.1.1.1.1.1.1.1.0.1) (back c.carried_by-2.result c.carried_by-2.type_inv ∙ c.carried_by-2.ensures) c.look-s1.ensures c.step-c1.ensures)
    (one a.s cs 2 _ _ _ _ _ c.samples-w2.ensures (back (channel_in cs 1).carry c.struct_told-3-1.given.1.1.1.1.1.1.1.1.1.1.1.0.1) (back c.carried_by-3.result c.carried_by-3.type_inv ∙ c.carried_by-3.ensures) c.look-s2.ensures c.step-c2.ensures)
    (one a.s cs 3 _ _ _ _ _ c.samples-w3.ensures (back (channel_in cs 2).carry c.struct_told-4-1.given.1.1.1.1.1.1.1.1.1.1.1.0.1) (back c.carried_by-4.result c.carried_by-4.type_inv ∙ c.carried_by-4.ensures) c.look-s3.ensures c.step-c3.ensures)
    (one a.s cs 4 _ _ _ _ _ c.samples-w4.ensures (back (channel_in cs 3).carry c.struct_told-5-1.given.1.1.1.1.1.1.1.1.1.1.1.0.1) (back c.carried_by-5.result c.carried_by-5.type_inv ∙ c.carried_by-5.ensures) c.look-s4.ensures c.step-c4.ensures)
    (one a.s cs 5 _ _ _ _ _ c.samples-w5.ensures (back (channel_in cs 4).carry c.struct_told-6-1.given.1.1.1.1.1.1.1.1.1.1.1.0.1) (back c.carried_by-6.result c.carried_by-6.type_inv ∙ c.carried_by-6.ensures) c.look-s5.ensures c.step-c5.ensures)
