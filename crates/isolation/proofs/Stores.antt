-- Records that stand in a store by their numbers, below n: the members' records of two stores, and a call that puts one record back.
-- All of it holds for any store and any records.
-- Assumes nothing.
use mathlib.Core.Path.{◌≡◌, ap, sym, ◌∙◌}
use mathlib.Core.Bool.{Bool, true, false, true≢false}
use Prim.Native.Nat.{ℕ, ◌<◌}
use native.Mathlib.Decide.{ℕ_discrete}

module _ {S X : Type 0} (n : ℕ) (at : S → ℕ → X) where
  -- the members' records are equal
  abbrev pub Agree : (ℕ → Bool) → S → S → Type 0
  Agree m s t = (i : ℕ) → i < n → m i ≡ true → at s i ≡ at t i

  -- `put` puts a record in one place of s, where it is read back as `stored` has it, and leaves the other places
  pub record Placing (put : ℕ → X → S → S) (stored : X → X) (s : S) : Type 0 where
    pub there : (i : ℕ) (x : X) → i < n → at (put i x s) i ≡ stored x
    pub elsewhere : (i j : ℕ) (x : X) → j < n → (j ≡ i → ⊥) → at (put i x s) j ≡ at s j

  module _ {put : ℕ → X → S → S} {stored : X → X} (m : ℕ → Bool) (s t : S) (a : Agree m s t) (p : Placing put stored s) where
    -- equal records put in one place of both
    pub put_both : Placing put stored t → (i : ℕ) (x y : X) → x ≡ y → Agree m (put i x s) (put i y t)
    put_both q i x y e j k h = go (ℕ_discrete j i)
      where
        go : Dec (j ≡ i) → at (put i x s) j ≡ at (put i y t) j
        go (yes d) = rw d (p.there i x (rw (sym d) k) ∙ ap stored e ∙ sym (q.there i y (rw (sym d) k)))
        go (no d) = p.elsewhere i j x k d ∙ a j k h ∙ sym (q.elsewhere i j y k d)

    -- a record put in an outsider's place
    pub put-outside : (i : ℕ) (x : X) → m i ≡ false → Agree m (put i x s) t
    put-outside i x o j k h = p.elsewhere i j x k (λ d. true≢false (sym h ∙ ap m d ∙ o)) ∙ a j k h
