-- Laws of the parts of a text, of the bytes before a mark, and of `over`.
-- Assumes nothing.
use mathlib.Core.Path.{◌≡◌, refl, ap, sym, ◌∙◌}
use mathlib.Core.Bool.{Bool, true, false}
use mathlib.Core.List.{List, [], ◌∷◌, ◌++◌, append_assoc, append-nil}
use Prim.Native.Nat.{ℕ, suc, ◌+◌, ◌-◌, ◌≤◌, ◌<◌}
use native.Mathlib.Omega.{arith}
use borrow.Author.Tests.{ltb-false}
use lib.Dec.{eqb}
use lib.ListN.{length, take, get_or}
use Rattle.std.specs.Prelude.{Some, None, cond, not, ltb, unwrap_or, position, fold}
use Rattle.std.specs.List.{position_or_len, slice_split, onto_first}
use Rattle.std.proofs.lemmas.List.Sums.{prefix_len-le-length}
use Rattle.std.proofs.lemmas.List.Splits.{length-slice_split}
use Rattle.scan.specs.Parts.{parts, before, over}

-- ---- parts

-- a separator ends a part
pub parts_cut : (s : ℕ → Bool) (p : List ℕ) (b : ℕ) (l : List ℕ) → s b ≡ true → parts s p (b ∷ l) ≡ p ∷ parts s [] l
unfolding parts
parts_cut s p b l h = rw h

-- another byte is in it
pub parts-byte : (s : ℕ → Bool) (p : List ℕ) (b : ℕ) (l : List ℕ) → s b ≡ false → parts s p (b ∷ l) ≡ parts s (p ++ (b ∷ [])) l
unfolding parts
parts-byte s p b l h = rw h

-- so is a run of bytes that are no separators
pub parts-run : (s : ℕ → Bool) (p w l : List ℕ) → ((j : ℕ) → j < length w → s (get_or w j 0) ≡ false) → parts s p (w ++ l) ≡ parts s (p ++ w) l
parts-run s p [] l h = simp append-nil
parts-run s p (b ∷ w) l h =
    parts-byte s p b (w ++ l) (h 0 (omega arith)) ∙ parts-run s (p ++ (b ∷ [])) w l (λ j k. h (suc j) (omega arith)) ∙ simp append_assoc

-- the end ends the last part
pub parts-end : (s : ℕ → Bool) (p : List ℕ) → parts s p [] ≡ p ∷ []
unfolding parts
parts-end s p = refl

-- ---- they are those that `split` gives

-- bytes that were read before, at the start of the first part
abbrev ahead : List ℕ → List (List ℕ) → List (List ℕ)
ahead p [] = p ∷ []
ahead p (x ∷ xs) = (p ++ x) ∷ xs

ahead-byte : (p : List ℕ) (b : ℕ) (xs : List (List ℕ)) → ahead p (onto_first b xs) ≡ ahead (p ++ (b ∷ [])) xs
ahead-byte p b [] = refl
ahead-byte p b (x ∷ xs) = ap (λ y. y ∷ xs) (sym (append_assoc p (b ∷ []) x))

ahead_none : (xs : List (List ℕ)) → 0 < length xs → ahead [] xs ≡ xs
ahead_none [] h = absurd (omega arith)
ahead_none (x ∷ xs) h = refl

-- what is shown of the rest of a text, of it with a byte more
module _ (s : ℕ → Bool) (p l : List ℕ) (b : ℕ) (whole : parts s [] l ≡ slice_split s l) (more : parts s (p ++ (b ∷ [])) l ≡ ahead (p ++ (b ∷ [])) (slice_split s l)) where
  ahead-more : (t : Bool) → cond t (p ∷ parts s [] l) (parts s (p ++ (b ∷ [])) l) ≡ ahead p (cond t ([] ∷ slice_split s l) (onto_first b (slice_split s l)))
  ahead-more true = ap (λ y. p ∷ y) whole ∙ ap (λ y. y ∷ slice_split s l) (sym (append-nil p))
  ahead-more false = more ∙ sym (ahead-byte p b (slice_split s l))

ahead_split : (s : ℕ → Bool) (l : List ℕ) → ahead [] (slice_split s l) ≡ slice_split s l
ahead_split s l = ahead_none (slice_split s l) (omega (arith, length-slice_split s l))

split-ahead : (s : ℕ → Bool) (p l : List ℕ) → parts s p l ≡ ahead p (slice_split s l)
unfolding parts
split-ahead s p [] = ap (λ y. y ∷ []) (sym (append-nil p))
split-ahead s p (b ∷ l) = ahead-more s p l b (split-ahead s [] l ∙ ahead_split s l) (split-ahead s (p ++ (b ∷ [])) l) (s b)

pub parts-split : (s : ℕ → Bool) (l : List ℕ) → parts s [] l ≡ slice_split s l
parts-split s l = split-ahead s [] l ∙ ahead_split s l

-- ---- the first byte that passes a test

-- the place where `position` finds it, or else the length
pub place-found : (s : ℕ → Bool) (l : List ℕ) → unwrap_or (position s l) (length l) ≡ position_or_len s l
place-found s l = by (ltb (position_or_len s l) (length l)) refl
  where
    by : (t : Bool) → ltb (position_or_len s l) (length l) ≡ t → unwrap_or (cond t (Some (position_or_len s l)) None) (length l) ≡ position_or_len s l
    by true e = refl
    by false e = let h = prefix_len-le-length (λ b. not (s b)) l in let k = ltb-false _ _ e in omega arith

-- ---- the bytes before a mark

pub before-byte : (m b : ℕ) (l : List ℕ) → eqb b m ≡ false → before m (b ∷ l) ≡ b ∷ before m l
unfolding before
before-byte m b l h = rw h

pub before-end : (m : ℕ) → before m [] ≡ []
unfolding before
before-end m = refl

-- they are those before the first byte that is the mark
module _ (m b : ℕ) (l : List ℕ) (more : take (position_or_len (λ b. eqb b m) l) l ≡ before m l) where
  before-more : (t : Bool) → take (cond (not t) (1 + position_or_len (λ b. eqb b m) l) 0) (b ∷ l) ≡ cond t [] (b ∷ before m l)
  before-more true = refl
  before-more false =
      let e : 1 + position_or_len (λ b. eqb b m) l ≡ suc (position_or_len (λ b. eqb b m) l) = omega arith in
      rw e (ap (λ k. b ∷ k) more)

pub before-found : (m : ℕ) (l : List ℕ) → take (position_or_len (λ b. eqb b m) l) l ≡ before m l
unfolding before
before-found m [] = refl
before-found m (b ∷ l) = before-more m b l (before-found m l) (eqb b m)

-- ---- over a list

pub over-append : {S A : Type 0} (f : S → A → S) (s : S) (k l : List A) → over f s (k ++ l) ≡ over f (over f s k) l
unfolding over
over-append f s [] l = refl
over-append f s (a ∷ k) l = over-append f (f s a) k l

-- what each turn keeps stands at the end
pub over-kept : {S A : Type 0} (P : S → Type 0) (f : S → A → S) → ((s : S) (a : A) → P s → P (f s a)) → (s : S) (l : List A) → P s → P (over f s l)
unfolding over
over-kept P f k s [] h = h
over-kept P f k s (a ∷ l) h = over-kept P f k (f s a) l (k s a h)

-- it is the library's `fold`
pub over-fold : {S A : Type 0} (f : S → A → S) (s : S) (l : List A) → over f s l ≡ fold f s l
unfolding over
over-fold f s [] = refl
over-fold f s (a ∷ l) = over-fold f (f s a) l
