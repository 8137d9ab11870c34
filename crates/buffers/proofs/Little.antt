-- Laws of little-endian numbers, over the width.
-- Assumes nothing.
use mathlib.Core.Path.{◌≡◌, refl, sym, ap, ◌∙◌}
use mathlib.Core.List.{List, [], ◌∷◌, ◌++◌}
use Prim.Native.Nat.{ℕ, zero, suc, ◌+◌, ◌*◌, ◌/◌, ◌%◌, ◌^◌, ◌≤◌, ◌<◌}
use native.Mathlib.Nat.{zero-add, add-zero, suc-add, mul-zero, mul_assoc, div-one, div-div-eq-div-mul, pow-succ'}
use native.Mathlib.Numerals.{towards_suc}
use native.Mathlib.Omega.{arith}
use lib.ListN.{length, take, drop, get_or, length-take, length-drop, take-append-drop, get_or-eq_default}
use lib.Seq.{length-take-le, get_or-take, get_or-drop, take-add, drop-drop, take_at, drop_at, drop-cons, take-append-le, drop-append-le}
use Rattle.buffers.proofs.Joined.{split}
use Rattle.buffers.specs.Little.{little, value, field}

pub length-little : (w n : ℕ) → length (little w n) ≡ w
unfolding little
length-little zero n = refl
length-little (suc w) n = ap suc (length-little w (n / 256))

-- ---- a number that fits is found again

pub value-little : (w n : ℕ) → n < 256 ^ w → value (little w n) ≡ n
unfolding little value
value-little zero n h = omega arith
value-little (suc w) n h =
    let p : 256 ^ suc w ≡ 256 * 256 ^ w = pow-succ' 256 w in
    let ih : value (little w (n / 256)) ≡ n / 256 = value-little w (n / 256) (omega (arith, p)) in
    omega arith

-- the number behind a list is the one that was put there
pub field-little : (w : ℕ) (a : List ℕ) (n v : ℕ) (b : List ℕ) → length a ≡ n → v < 256 ^ w → field w (a ++ (little w v ++ b)) n ≡ v
unfolding field
field-little w a n v b e h = simp (drop_at a (little w v ++ b) n e, take_at (little w v) b w (length-little w v)) (value-little w v h)

-- ---- bytes are found again from their number

pub little-value : (l : List ℕ) → ((j : ℕ) → get_or l j 0 < 256) → little (length l) (value l) ≡ l
unfolding little value
little-value [] h = refl
little-value (b ∷ l) h =
    let small : b < 256 = h 0 in
    let digit : (b + 256 * value l) % 256 ≡ b = omega arith in
    let above : (b + 256 * value l) / 256 ≡ value l = omega arith in
    rw (digit, above, little-value l (λ j. h (suc j)))

-- a part of bytes is bytes
pub part_bytes : (w : ℕ) (l : List ℕ) (i : ℕ) → ((j : ℕ) → get_or l j 0 < 256) → (j : ℕ) → get_or (take w (drop i l)) j 0 < 256
part_bytes w l i bytes j =
    split (suc j) w
    (λ b. rw (get_or-take w (drop i l) j 0 b, get_or-drop) (bytes (i + j)))
    (λ b. rw (get_or-eq_default (take w (drop i l)) 0 {n = j} (simp length-take (omega arith))) (omega arith))

value-small : (l : List ℕ) → ((j : ℕ) → get_or l j 0 < 256) → (w : ℕ) → length l ≤ w → value l < 256 ^ w
unfolding value
value-small [] h w k = pow_pos w
  where
    pow_pos : (w : ℕ) → 0 < 256 ^ w
    pow_pos zero = omega arith
    pow_pos (suc w) = let p : 256 ^ suc w ≡ 256 * 256 ^ w = pow-succ' 256 w in omega (arith, pow_pos w)
value-small (b ∷ l) h zero k = absurd (omega arith)
value-small (b ∷ l) h (suc w) k =
    let p : 256 ^ suc w ≡ 256 * 256 ^ w = pow-succ' 256 w in
    omega (arith, h 0, value-small l (λ j. h (suc j)) w (omega arith))

pub little-field : (w : ℕ) (l : List ℕ) (i : ℕ) → ((j : ℕ) → get_or l j 0 < 256) → i + w ≤ length l → little w (field w l i) ≡ take w (drop i l)
unfolding field
little-field w l i bytes h =
    let long : length (take w (drop i l)) ≡ w = length-take-le w (drop i l) (simp length-drop (omega arith)) in
    rw long at (little-value (take w (drop i l)) (part_bytes w l i bytes))

pub field-small : (w : ℕ) (l : List ℕ) (i : ℕ) → ((j : ℕ) → get_or l j 0 < 256) → field w l i < 256 ^ w
unfolding field
field-small w l i bytes = value-small (take w (drop i l)) (part_bytes w l i bytes) w (simp length-take (omega arith))

-- ---- parts

-- a number within the first of two lists
pub field-append : (w : ℕ) (a b : List ℕ) (i : ℕ) → i + w ≤ length a → field w (a ++ b) i ≡ field w a i
unfolding field
field-append w a b i h =
    let start : i ≤ length a = omega arith in
    let rest : w ≤ length (drop i a) = simp length-drop (omega arith) in
    simp (drop-append-le, take-append-le)

further : (w n : ℕ) (l : List ℕ) (i : ℕ) → field w (drop n l) i ≡ field w l (n + i)
unfolding field
further w n l i = rw drop-drop

-- a number within a part
pub field-part : (w n at : ℕ) (l : List ℕ) (i : ℕ) → i + w ≤ n → at + n ≤ length l → field w (take n (drop at l)) i ≡ field w l (at + i)
field-part w n at l i h k =
    let long : length (take n (drop at l)) ≡ n = length-take-le n (drop at l) (simp length-drop (omega arith)) in
    sym (field-append w (take n (drop at l)) (drop n (drop at l)) i (omega arith)) ∙ ap (λ (r : List ℕ). field w r i) (take-append-drop n (drop at l)) ∙ further w at l i

-- the four bytes of a word, one by one
pub field-four : (l : List ℕ) (i : ℕ) → i + 4 ≤ length l
    → field 4 l i ≡ get_or l i 0 + 256 * (get_or l (i + 1) 0 + 256 * (get_or l (i + 2) 0 + 256 * get_or l (i + 3) 0))
unfolding field value
field-four l i h =
    simp towards_suc
    (rw (drop-cons l i 0 (omega arith), drop-cons l (suc i) 0 (omega arith), drop-cons l (suc (suc i)) 0 (omega arith), drop-cons l (suc (suc (suc i))) 0 (omega arith))
    (simp (mul-zero, add-zero)))

-- a wide number is a low one and a high one
pub little-split : (v w n : ℕ) → little (v + w) n ≡ little v n ++ little w (n / 256 ^ v)
unfolding little
little-split zero w n = simp (zero-add, div-one)
little-split (suc v) w n =
    let p : 256 ^ suc v ≡ 256 * 256 ^ v = pow-succ' 256 v in
    rw (suc-add, p, ← div-div-eq-div-mul n 256 (256 ^ v)) (ap (λ (l : List ℕ). n % 256 ∷ l) (little-split v w (n / 256)))

-- w bytes tell a number only up to a multiple of 256 ^ w
pub little-low : (w n q : ℕ) → little w (n + 256 ^ w * q) ≡ little w n
unfolding little
little-low zero n q = refl
little-low (suc w) n q =
    let p : 256 ^ suc w * q ≡ 256 * (256 ^ w * q) = rw (pow-succ' 256 w) (mul_assoc 256 (256 ^ w) q) in
    let digit : (n + 256 * (256 ^ w * q)) % 256 ≡ n % 256 = omega arith in
    let above : (n + 256 * (256 ^ w * q)) / 256 ≡ n / 256 + 256 ^ w * q = omega arith in
    rw (p, digit, above, little-low w (n / 256) q)

pub value-append : (a b : List ℕ) → value (a ++ b) ≡ value a + 256 ^ length a * value b
unfolding value
value-append [] b = omega arith
value-append (x ∷ a) b =
    let p : 256 ^ suc (length a) ≡ 256 * 256 ^ length a = pow-succ' 256 (length a) in
    rw (p, value-append a b, mul_assoc 256 (256 ^ length a) (value b)) (omega arith)

pub field-split : (v w : ℕ) (l : List ℕ) (i : ℕ) → i + v ≤ length l → field (v + w) l i ≡ field v l i + 256 ^ v * field w l (i + v)
unfolding field
field-split v w l i h =
    let long : length (take v (drop i l)) ≡ v = length-take-le v (drop i l) (simp length-drop (omega arith)) in
    rw (take-add v w (drop i l), value-append (take v (drop i l)) (take w (drop v (drop i l))), long) (simp drop-drop)
