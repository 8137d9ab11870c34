-- Laws of the names: each is found again, and each is one word.
-- Assumes nothing.
use mathlib.Core.Path.{◌≡◌, refl}
use mathlib.Core.Bool.{Bool, true, false, cond, not, ◌&&◌, and-eq-true_iff}
use mathlib.Core.List.{List, [], ◌∷◌}
use Prim.Native.Nat.{ℕ, zero, suc, ◌+◌, ◌≤◌, ◌<◌}
use native.Mathlib.Nat.{le_of_suc-le-suc, not-suc-le-zero}
use native.Mathlib.Numerals.{add-one}
use native.Mathlib.Omega.{arith}
use lib.Dec.{eqb, ltb, leb}
use lib.ListN.{length, drop, get_or, length-drop}
use lib.Seq.{drop-cons}
use borrow.Author.Tests.{ltb-true, leb-true, not-true}
use Rattle.words.specs.Table.{tab}
use Rattle.words.proofs.Cases.{either}
use Rattle.scan.specs.Bytes.{ascii, same}
use Rattle.std.specs.Prelude.{Some, None}
use Rattle.scan.specs.declared.Between.TheVariants.{Words}
use Rattle.scan.specs.Parts.{between, over}
use Rattle.scan.specs.Numbers.{worth, extended, figure, number}
use Rattle.scan.proofs.Numbers.{figure-none}
use Rattle.text.specs.Decimal.{digits, decimal}
use Rattle.text.proofs.Decimal.{decimal-below}
use Rattle.kinds.specs.declared.Input.TheVariants.{Line, Pin}
use Rattle.kinds.specs.declared.Named.{Named}
use Rattle.kinds.specs.declared.Named.TheVariants.{Kind, Raw}
use Rattle.kinds.specs.Names.{kinds, names, name, raw_name, kind_in, kind_of, letter, input_at, input_of, input_name, pin_name}
use Rattle.words.proofs.Tables.{tab-at}

-- ---- the search for a name, kind by kind

names-length : length names ≡ kinds
unfolding names
names-length = refl

-- the word is the name of kind k
pub kind-here : (w : List ℕ) (k : ℕ) → k < kinds → same w (name k) ≡ true → kind_in w (drop k names) k ≡ Some (Kind k)
unfolding kind_in name
kind-here w k h e = let b : k < length names = omega (arith, names-length) in rw (drop-cons names k [], e)

-- or it is not
pub kind-next : (w : List ℕ) (k : ℕ) → k < kinds → same w (name k) ≡ false → kind_in w (drop k names) k ≡ kind_in w (drop (k + 1) names) (k + 1)
unfolding kind_in name
kind-next w k h e = let b : k < length names = omega (arith, names-length) in rw (add-one, drop-cons names k [], e)

-- ---- inputs

-- a word of no bytes
pub input_none : (w : List ℕ) → length w ≡ 0 → input_of w ≡ None
unfolding input_of
input_none w h = rw (figure-none 10 (drop 1 w) (simp length-drop (omega arith)))

-- a letter is one of three
pub letter-below : (b k : ℕ) → letter b ≡ Some k → k < 3
unfolding letter
letter-below b k e = by (eqb b 97) (eqb b 98) (eqb b 120) e
  where
    by : (r s t : Bool) → cond r (Some 0) (cond s (Some 1) (cond t (Some 2) None)) ≡ Some k → k < 3
    by true s t h = let i : ◌≡◌ {A = ℕ} 0 k = cc in omega arith
    by false true t h = let i : ◌≡◌ {A = ℕ} 1 k = cc in omega arith
    by false false true h = let i : ◌≡◌ {A = ℕ} 2 k = cc in omega arith
    by false false false h = cc

pub input-named : (i : ℕ) → i < 18 → input_of (input_name i) ≡ Some (Line i)
unfolding input_of input_name input_at letter figure extended worth over tab
input-named = tab-at 18 (λ i. input_of (input_name i)) (λ i. Some (Line i)) refl

pub pin-named : (i : ℕ) → i < 48 → input_of (pin_name i) ≡ Some (Pin i)
unfolding input_of pin_name input_at letter figure extended worth over tab
pin-named = tab-at 48 (λ i. input_of (pin_name i)) (λ i. Some (Pin i)) refl

pub input-no-number : (i : ℕ) → i < 18 → number (input_name i) ≡ None
unfolding number input_name figure extended worth over same ascii tab
input-no-number = tab-at 18 (λ i. number (input_name i)) (λ i. None) refl

pub pin-no-number : (i : ℕ) → i < 48 → number (pin_name i) ≡ None
unfolding number pin_name figure extended worth over same ascii tab
pin-no-number = tab-at 48 (λ i. number (pin_name i)) (λ i. None) refl

-- ---- words: no byte of which separates words or starts a comment

abbrev pub Word : List ℕ → Type 0
Word l = (j : ℕ) → j < length l → (between Words (get_or l j 0) ≡ false) × (eqb (get_or l j 0) 35 ≡ false)

-- the test of one byte, and of all
abbrev inner : ℕ → Bool
inner b = not (between Words b) && not (eqb b 35)

unfoldable plain : List ℕ → Bool
plain [] = true
plain (b ∷ l) = inner b && plain l

word : (l : List ℕ) → plain l ≡ true → Word l
unfolding plain
word [] h j k = absurd (not-suc-le-zero k)
word (b ∷ l) h zero k =
    let t = (and-eq-true_iff (not (between Words b)) (not (eqb b 35))).0 ((and-eq-true_iff (inner b) (plain l)).0 h).0 in
    (not-true _ t.0, not-true _ t.1)
word (b ∷ l) h (suc j) k = word l ((and-eq-true_iff (inner b) (plain l)).0 h).1 j (le_of_suc-le-suc k)

pub input-word : (i : ℕ) → i < 18 → Word (input_name i)
unfolding plain between input_name tab
input-word i h = word (input_name i) (tab-at 18 (λ i. plain (input_name i)) (λ i. true) refl i h)

pub pin-word : (i : ℕ) → i < 48 → Word (pin_name i)
unfolding plain between pin_name tab
pin-word i h = word (pin_name i) (tab-at 48 (λ i. plain (pin_name i)) (λ i. true) refl i h)

-- ---- lengths

pub name-length : (k : ℕ) → k < kinds → length (name k) ≤ 25
unfolding name names ascii tab
name-length k h = leb-true _ _ (tab-at kinds (λ k. leb (length (name k)) 25) (λ k. true) refl k h)

pub input-length : (i : ℕ) → length (input_name i) ≡ 2
unfolding input_name
input-length i = refl

pub pin-length : (i : ℕ) → length (pin_name i) ≤ 3
unfolding pin_name
pin-length i = either (λ (l : List ℕ). suc (length l) ≤ 3) (ltb i 10) (omega arith) (omega arith)

-- a pin is named by its number in decimal
pub pin_named : (i : ℕ) → i < 48 → pin_name i ≡ 112 ∷ decimal i
unfolding pin_name decimal digits tab
pin_named = tab-at 48 pin_name (λ i. 112 ∷ decimal i) refl

pub length_pin : (i : ℕ) → i < 48 → length (decimal i) ≤ 2
length_pin i h = decimal-below 1 i (omega arith)

-- the letters of a channel's inputs
pub input_letter : (k : ℕ) → k < 3 → get_or (97 ∷ 98 ∷ 120 ∷ []) k 0 ≡ cond (eqb k 2) 120 (97 + k)
unfolding tab
input_letter = tab-at 3 (λ k. get_or (97 ∷ 98 ∷ 120 ∷ []) k 0) (λ k. cond (eqb k 2) 120 (97 + k)) refl

pub pin-some : (i : ℕ) → 0 < length (pin_name i)
unfolding pin_name
pin-some i = omega arith

-- ---- the first word of a line

-- one that is printed, and what it names
pub record First (w : List ℕ) (n : Named) : Type 0 where
  pub word : Word w
  pub some : 0 < length w
  pub short : length w ≤ 25
  pub names : kind_of w ≡ Some n

pub first_kind : (k : ℕ) → k < kinds → First (name k) (Kind k)
unfolding plain between kind_of kind_in name names raw_name number figure extended worth over same ascii tab
first_kind k h = record {
  word = word (name k) (tab-at kinds (λ k. plain (name k)) (λ k. true) refl k h);
  some = ltb-true _ _ (tab-at kinds (λ k. ltb 0 (length (name k))) (λ k. true) refl k h);
  short = name-length k h;
  names = tab-at kinds (λ k. kind_of (name k)) (λ k. Some (Kind k)) refl k h;
}

pub first-raw : First raw_name Raw
unfolding plain between kind_of raw_name number figure extended worth over same ascii tab
first-raw = record { word = word raw_name refl; some = omega arith; short = omega arith; names = refl }
