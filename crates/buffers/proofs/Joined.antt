-- Laws of `joined` and `piece`: cutting what was joined gives the pieces, and joining what was cut gives the list.
-- Assumes nothing.
use mathlib.Core.Path.{◌≡◌, refl, sym, ◌∙◌}
use mathlib.Core.Logic.{⊎_elim}
use mathlib.Core.List.{List, ◌++◌}
use Prim.Native.Nat.{ℕ, zero, suc, min, ◌+◌, ◌-◌, ◌*◌, ◌≤◌, ◌<◌}
use native.Mathlib.Nat.{mul-suc, mul-le-mul_left, eq-or-lt_of_le, le_of_suc-le-suc, min-eq_left, min-eq_right, lt_of_not-le, le_of_lt, add-sub_cancel_left, mul-zero}
use native.Mathlib.Numerals.{add-one}
use native.Mathlib.Decide.{dec_le}
use native.Mathlib.Omega.{arith}
use lib.ListN.{length, take, drop, length-append, length-drop}
use lib.Seq.{take-append-le, drop-append-le, drop_at, take_all, take-add}
use Rattle.buffers.specs.Pieces.{joined, piece}

-- one order or the other
pub split {ℓ} : {X : Type ℓ} (a b : ℕ) → (a ≤ b → X) → (b < a → X) → X
split a b f g = elim (dec_le a b) [ yes h ↦ f h | no h ↦ g (lt_of_not-le h) ]

-- a place and all of its piece lie before a later place
pub pieces-before : (w k n : ℕ) → k < n → w * k + w ≤ w * n
pieces-before w k n h = rw mul-suc at (mul-le-mul_left w h)

pub joined-ext : (n : ℕ) (f g : ℕ → List ℕ) → ((j : ℕ) → j < n → f j ≡ g j) → joined n f ≡ joined n g
unfolding joined
joined-ext zero f g h = refl
joined-ext (suc n) f g h =
    let ih : joined n f ≡ joined n g = joined-ext n f g (λ j b. h j (omega arith)) in
    let e : f n ≡ g n = h n (omega arith) in
    cc

pub length-joined : (w n : ℕ) (f : ℕ → List ℕ) → ((j : ℕ) → j < n → length (f j) ≡ w) → length (joined n f) ≡ w * n
unfolding joined
length-joined w zero f h = sym (mul-zero w)
length-joined w (suc n) f h =
    let ih : length (joined n f) ≡ w * n = length-joined w n f (λ j b. h j (omega arith)) in
    simp (length-append, mul-suc, ih, h n (omega arith))

pub piece-joined : (w n : ℕ) (f : ℕ → List ℕ) → ((j : ℕ) → suc j < n → length (f j) ≡ w) → ((j : ℕ) → j < n → length (f j) ≤ w)
    → (k : ℕ) → k < n → piece w (joined n f) k ≡ f k
unfolding joined piece
piece-joined w zero f full most k h = absurd (omega arith)
piece-joined w (suc n) f full most k h =
    let whole : length (joined n f) ≡ w * n = length-joined w n f (λ j b. full j (omega arith)) in
    ⊎_elim
    (λ (e : k ≡ n). rw e (simp (drop_at (joined n f) (f n) (w * n) whole) (take_all w (f n) (most n (omega arith)))))
    (λ (b : k < n).
    let room : w * k + w ≤ w * n = pieces-before w k n b in
    let start : w * k ≤ length (joined n f) = omega arith in
    let rest : w ≤ length (drop (w * k) (joined n f)) = simp length-drop (omega arith) in
    simp (drop-append-le, take-append-le) (piece-joined w n f (λ j c. full j (omega arith)) (λ j c. most j (omega arith)) k b))
    (eq-or-lt_of_le (le_of_suc-le-suc h))

pub joined-piece : (w n : ℕ) (l : List ℕ) → joined n (piece w l) ≡ take (w * n) l
unfolding joined piece
joined-piece w zero l = simp mul-zero
joined-piece w (suc n) l = simp (joined-piece w n l, mul-suc) (sym (take-add (w * n) w l))

-- the part of a list from place w * k up to w more
pub part-whole : (w k : ℕ) (l : List ℕ) → take (w * k + w - w * k) (drop (w * k) l) ≡ piece w l k
unfolding piece
part-whole w k l = simp add-sub_cancel_left

-- or to its end
pub part-piece : (w k to : ℕ) (l : List ℕ) → to ≡ min (w * k + w) (length l) → take (to - w * k) (drop (w * k) l) ≡ piece w l k
unfolding piece
part-piece w k to l e =
    split (w * k + w) (length l)
    (λ h. rw (e, min-eq_left h) (part-whole w k l))
    (λ h.
    let f : to ≡ length l = e ∙ min-eq_right (le_of_lt h) in
    let here : length (drop (w * k) l) ≤ w = simp length-drop (omega arith) in
    let there : length (drop (w * k) l) ≤ to - w * k = simp (length-drop, f) (omega arith) in
    take_all (to - w * k) (drop (w * k) l) there ∙ sym (take_all w (drop (w * k) l) here))

pub joined-more : (n : ℕ) (f : ℕ → List ℕ) → joined (n + 1) f ≡ joined n f ++ f n
unfolding joined
joined-more n f = rw add-one

pub length-joined-le : (k n : ℕ) (f : ℕ → List ℕ) → k ≤ n → length (joined k f) ≤ length (joined n f)
unfolding joined
length-joined-le k zero f h = rw (le-zero-eq k h) le-refl'
  where
    le-refl' : 0 ≤ 0
    le-refl' = omega arith

    le-zero-eq : (k : ℕ) → k ≤ 0 → k ≡ 0
    le-zero-eq k h = omega arith
length-joined-le k (suc n) f h =
    split k n
    (λ b. let ih : length (joined k f) ≤ length (joined n f) = length-joined-le k n f b in simp length-append (omega arith))
    (λ b. let q : k ≡ suc n = omega arith in rw q (simp length-append (omega arith)))
