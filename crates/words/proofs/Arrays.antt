-- Laws of arrays that a closure makes at each place, and of tests of every element.
-- Assumes nothing.
use mathlib.Core.Path.{◌≡◌, refl, sym, ap, ◌∙◌, subst}
use mathlib.Core.Bool.{Bool, true, false, ◌&&◌}
use mathlib.Core.List.{List, [], ◌∷◌}
use Prim.Native.Nat.{ℕ, zero, suc, ◌+◌, ◌<◌, ◌≤◌}
use native.Mathlib.Nat.{not-suc-le-zero}
use native.Mathlib.Omega.{arith}
use lib.ListN.{length, get_or, take}
use native.Mathlib.Numerals.{add-one}
use Rattle.std.proofs.lemmas.List.Folds.{list_all_more}
use denote.Param.Members.{Mut, Called}
use Rattle.std.specs.Array.{IsMapOf, IsFromFnResult, IsFromFnResultFrom}
use Rattle.std.specs.Ordering.{nat_cmp, is_lt, partial_lt}
use Rattle.std.proofs.lemmas.Bool.Decides.{nat_tests}
use Rattle.std.proofs.Common.{Some}
use lib.Dec.{ltb}
use Rattle.std.specs.List.{fold, list_all}
use Rattle.words.specs.Bits.{every}
use Rattle.words.specs.Table.{tab}
use Rattle.words.specs.Range.{or_reset, all_good}
use Rattle.std.proofs.lemmas.List.{take_all}
use borrow.Author.Tests.{eq-eqb}
use Rattle.words.proofs.Tables.{tab-same}

-- an array of what a function gives of each element
pub map_is : {F A B : Type 0} (g : Mut F (A × Unit {0}) B) (h : A → B) (d : A) (e : B) {f : F} {n : ℕ} {xs : List A} {ys : List B}
    → IsMapOf g f xs ys n
    → ((p : F) (x : A) (y : B) (q : F) → Called g p (x, tt) y q → y ≡ h x)
    → ys ≡ tab n (λ i. h (get_or xs i d))
map_is g h d e {f} {n} {xs} {ys} made gives =
    sym (tab-same n (λ i. h (get_or xs i d)) ys e made.long (λ i k. let m = made.at i d e k in sym (gives m.0 (get_or xs i d) (get_or ys i e) m.1 m.2)))

module _ {F B : Type 0} (g : Mut F (ℕ × Unit {0}) B) (h : ℕ → B) where
  made_each : (f : F) (ys : List B) (i n : ℕ) → IsFromFnResultFrom g f ys i n
      → ((k : ℕ) (y : B) (q : F) → Called g f (k, tt) y q → (q ≡ f) × (y ≡ h k))
      → (k : ℕ) (d : B) → k < n → get_or ys (i + k) d ≡ h (i + k)
  made_each f ys i zero m gives k d l = absurd (not-suc-le-zero l)
  made_each f ys i (suc n) m gives zero d l =
      let here : i + 0 ≡ i = omega arith in
      rw here (m.2.1 d ∙ (gives i m.1 m.0 m.3).1)
  made_each f ys i (suc n) m gives (suc k) d l =
      let on : i + suc k ≡ i + 1 + k = omega arith in
      let rest : IsFromFnResultFrom g f ys (i + 1) n = subst (λ q. IsFromFnResultFrom g q ys (i + 1) n) (gives i m.1 m.0 m.3).0 m.4 in
      rw on (made_each f ys (i + 1) n rest gives k d (omega arith))

  -- an array of what a function gives of each place
  pub from_fn_is : (d : B) {f : F} {n : ℕ} {ys : List B} → IsFromFnResult g f ys n
      → ((k : ℕ) (y : B) (q : F) → Called g f (k, tt) y q → (q ≡ f) × (y ≡ h k))
      → ys ≡ tab n h
  from_fn_is d {f} {n} {ys} made gives =
      sym (tab-same n h ys d made.long (λ i k. let none : 0 + i ≡ i = omega arith in rw none at (sym (made_each f ys 0 n made.each gives i d k))))

-- ---- a test of every element is one of every place

module _ {A : Type 0} (good : A → Bool) (xs : List A) (d : A) where
  every-front : (n : ℕ) → n ≤ length xs → list_all good (take n xs) ≡ every n (λ i. good (get_or xs i d))
  unfolding every
  every-front zero h = refl
  every-front (suc n) h =
      rw (← add-one n) (list_all_more good xs n d (omega arith) ∙ ap (λ t. t && good (get_or xs n d)) (every-front n (omega arith)))

pub every_is : (good : ℕ → Bool) (n : ℕ) (xs : List ℕ) → length xs ≡ n → list_all good xs ≡ every n (λ i. good (get_or xs i 0))
every_is good n xs e = ap (list_all good) (sym (take_all n xs (omega arith))) ∙ every-front good xs 0 n (omega arith)

pub all_is : (good : ℕ → Bool) (n : ℕ) (xs : List ℕ) → length xs ≡ n → list_all good xs ≡ all_good good n xs
unfolding all_good
all_is good n xs e =
    rw (eq-eqb (length xs) n e) (every_is good n xs e)

-- a fold that looks at all of them
fold_from : {A : Type 0} (good : A → Bool) (b : Bool) (xs : List A) → fold (λ c x. c && good x) b xs ≡ (b && list_all good xs)
fold_from good true [] = refl
fold_from good false [] = refl
fold_from good true (x ∷ xs) = fold_from good (good x) xs
fold_from good false (x ∷ xs) = fold_from good false xs

pub fold_all : {A : Type 0} (good : A → Bool) (xs : List A) → fold (λ b x. b && good x) true xs ≡ list_all good xs
fold_all good xs = fold_from good true xs

lt_is : (x y : ℕ) → is_lt (nat_cmp x y) ≡ ltb x y
lt_is x y = grind (arith, nat_tests)

-- so a value that `words::below` gives is in its range
pub below_is : (limit reset n : ℕ) → or_reset (λ m. partial_lt (λ x y. Some (nat_cmp x y)) m limit) reset n ≡ or_reset (λ m. ltb m limit) reset n
below_is limit reset n = simp lt_is

-- and so are all those of which `words::are_below` tells it
pub all-below : (limit n : ℕ) (xs : List ℕ) → length xs ≡ n → list_all (λ m. partial_lt (λ x y. Some (nat_cmp x y)) m limit) xs ≡ all_good (λ m. ltb m limit) n xs
all-below limit n xs e = simp lt_is (all_is (λ m. ltb m limit) n xs e)
