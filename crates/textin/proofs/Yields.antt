-- What a loop over the parts of a text has been given, where the loop is known before the parts.
-- Assumes nothing.
use Rattle.std.proofs.Common.{◌≡◌, ◌<◌, ℕ, ◌++◌, List, [], ◌∷◌, map, length, take, get_or, Option, Some, None}
use Rattle.std.specs.Borrow.{Bor}
use Rattle.std.specs.Iterator.{Yields}
use Rattle.std.proofs.lemmas.Iterator.{YieldsList}
use Rattle.std.proofs.lemmas.Iterator.Consumers.{YieldsList-so_far, YieldsList-turn, YieldsList-end}
use Rattle.std.proofs.lemmas.List.{map-append}
use Rattle.scan.specs.Parts.{over}
use Rattle.scan.proofs.Parts.{over-append}

module _ {S A B : Type 0} {steps : S → Option A → S → Type 0} {v : A → B} {s : S} {all : List B} (xs : List A) (t : S) (y : Yields steps s xs t) where
  pub front-yielded : YieldsList steps v s all → map v xs ≡ take (length xs) all
  front-yielded e = YieldsList-so_far e xs t y

  module _ (r : Option A) (u : S) where
    pub next-yielded : (x : A) → r ≡ Some x → steps t r u → YieldsList steps v s all → (length xs < length all) × (v x ≡ get_or all (length xs) (v x))
    next-yielded x p q e = YieldsList-turn e xs t y r u x p q

    pub all-yielded : r ≡ None → steps t r u → YieldsList steps v s all → map v xs ≡ all
    all-yielded p q e = (YieldsList-end e xs t y r u p q).0

-- what a function of one part after the other has made of the parts so far, and with a part more
abbrev pub over_parts : {S : Type 0} → (S → List ℕ → S) → S → List (Bor (List ℕ)) → S
over_parts f s xs = over f s (map (λ (x : Bor (List ℕ)). x.now) xs)

pub over_parts-more : {S : Type 0} (f : S → List ℕ → S) (s : S) (xs : List (Bor (List ℕ))) (x : Bor (List ℕ))
    → over_parts f s (xs ++ (x ∷ [])) ≡ f (over_parts f s xs) x.now
unfolding over
over_parts-more f s xs x = rw (map-append, over-append f s (map (λ (y : Bor (List ℕ)). y.now) xs) (x.now ∷ []))
