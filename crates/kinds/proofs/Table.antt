-- A table of the names is that of the definitions, and a search in it is theirs.
-- Assumes nothing.
use mathlib.Core.Path.{◌≡◌, refl, sym, ◌∙◌}
use mathlib.Core.Bool.{Bool, true, false, cond}
use mathlib.Core.List.{List, [], ◌∷◌, map}
use Prim.Native.Nat.{ℕ, zero, suc, ◌+◌, ◌<◌}
use native.Mathlib.Numerals.{add-one}
use native.Mathlib.Omega.{arith}
use lib.ListN.{get_or, length}
use Rattle.std.specs.Prelude.{Some, option_map, position, bytes_eq}
use Rattle.std.specs.List.{position_from}
use Rattle.std.proofs.lemmas.Iterator.Adapters.{position_from-zero}
use Rattle.scan.proofs.Bytes.{same-pointwise}
use Rattle.kinds.specs.declared.Named.TheVariants.{Kind}
use Rattle.kinds.specs.Names.{kinds, names, name, kind_in}

names-length : length names ≡ kinds
unfolding names
names-length = refl

module _ {A : Type 0} (text : A → List ℕ) where
  entry-at : (xs : List A) (k : ℕ) (d : A) → k < length (map text xs) → text (get_or xs k d) ≡ get_or (map text xs) k []
  entry-at [] k d h = absurd (omega arith)
  entry-at (x ∷ xs) zero d h = refl
  entry-at (x ∷ xs) (suc k) d h = entry-at xs k d (omega arith)

  -- the kind at the first place where the word is found
  found-from : (w : List ℕ) (xs : List A) (k : ℕ) → kind_in w (map text xs) k ≡ option_map (λ i. Kind i) (position_from (λ x. bytes_eq w (text x)) k xs)
  unfolding kind_in
  found-from w [] k = refl
  found-from w (x ∷ xs) k = rw (same-pointwise w (text x)) (here (bytes_eq w (text x)) (found-from w xs (suc k)))
    where
      here : (t : Bool) → kind_in w (map text xs) (suc k) ≡ option_map (λ i. Kind i) (position_from (λ x. bytes_eq w (text x)) (suc k) xs)
          → cond t (Some (Kind k)) (kind_in w (map text xs) (suc k)) ≡ option_map (λ i. Kind i) (cond t (Some k) (position_from (λ x. bytes_eq w (text x)) (k + 1) xs))
      here true e = refl
      here false e = rw add-one e

  module _ (xs : List A) (all : map text xs ≡ names) where
    pub name-at : (k : ℕ) (d : A) → k < kinds → text (get_or xs k d) ≡ name k
    unfolding name
    name-at k d h = entry-at xs k d (rw (all, names-length) h) ∙ rw all

    pub found_kind : (w : List ℕ) → option_map (λ i. Kind i) (position (λ x. bytes_eq w (text x)) xs) ≡ kind_in w names 0
    found_kind w = rw (position_from-zero (λ x. bytes_eq w (text x)) xs, ← all) (sym (found-from w xs 0))
