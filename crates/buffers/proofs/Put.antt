-- Laws of `put`: each store, each copy and each part that was lent and came back is a `put`, and puts one after the other are one.
-- Assumes nothing.
use mathlib.Core.Path.{◌≡◌, refl, sym, ap, ◌∙◌}
use mathlib.Core.List.{List, [], ◌∷◌, ◌++◌, append_assoc, append-nil}
use Prim.Native.Nat.{ℕ, ◌+◌, ◌≤◌, ◌<◌}
use native.Mathlib.Nat.{add-zero, zero-add}
use native.Mathlib.Numerals.{add-one}
use native.Mathlib.Omega.{arith}
use lib.ListN.{length, take, drop, set, get_or, length-append, length-take, length-drop, take-append-drop}
use lib.Seq.{length-take-le, take-suc, take_at, set_split, drop-drop, drop-length, drop-append-add}
use borrow.Rule.Slice.PartMut.{put_mid}
use Rattle.buffers.specs.Pieces.{put}

-- nothing put is nothing changed
pub put-none : (d : List ℕ) (at : ℕ) → put d at [] ≡ d
unfolding put
put-none d at = simp add-zero (take-append-drop at d)

pub length-put : (d : List ℕ) (at : ℕ) (p : List ℕ) → at + length p ≤ length d → length (put d at p) ≡ length d
unfolding put
length-put d at p h = simp (length-append, length-take, length-drop) (omega arith)

-- two puts in a row are one
pub put-put : (d : List ℕ) (at : ℕ) (p q : List ℕ) (n : ℕ) → n ≡ at + length p → n + length q ≤ length d → put (put d at p) n q ≡ put d at (p ++ q)
unfolding put
put-put d at p q n e h =
    let front : length (take at d ++ p) ≡ n = simp (length-append, length-take) (omega arith) in
    let whole : put d at p ≡ (take at d ++ p) ++ drop n d = simp (append_assoc, e) in
    let back : drop (n + length q) ((take at d ++ p) ++ drop n d) ≡ drop (n + length q) d =
    ap (λ (k : ℕ). drop (k + length q) ((take at d ++ p) ++ drop n d)) (sym front)
    ∙ drop-append-add (take at d ++ p) (drop n d) (length q) ∙ drop-drop (length q) n d in
    let len : at + length (p ++ q) ≡ n + length q = omega (arith, length-append p q) in
    ap (λ (l : List ℕ). take n l ++ (q ++ drop (n + length q) l)) whole
    ∙ ap (λ (l : List ℕ). l ++ (q ++ drop (n + length q) ((take at d ++ p) ++ drop n d))) (take_at (take at d ++ p) (drop n d) n front)
    ∙ ap (λ (l : List ℕ). (take at d ++ p) ++ (q ++ l)) back
    ∙ simp (append_assoc, len)

-- a store is a put of one byte
pub set-put : (d : List ℕ) (i x : ℕ) → i < length d → set d i x ≡ put d i (x ∷ [])
unfolding put
set-put d i x h = set_split d i x h ∙ simp add-one

-- a store behind what was put
pub put-set : (d : List ℕ) (at : ℕ) (p : List ℕ) (n x : ℕ) → n ≡ at + length p → n < length d → set (put d at p) n x ≡ put d at (p ++ (x ∷ []))
put-set d at p n x e h =
    let room : n + 1 ≤ length d = omega arith in
    let before : at + length p ≤ length d = omega arith in
    set-put (put d at p) n x (simp length-put (omega arith)) ∙ put-put d at p (x ∷ []) n e room

-- three and four stores in a row
pub put_three : (d : List ℕ) (at a b c : ℕ) → at + 3 ≤ length d → set (set (set d at a) (at + 1) b) (at + 2) c ≡ put d at (a ∷ b ∷ c ∷ [])
put_three d at a b c h =
    ap (λ (l : List ℕ). set (set l (at + 1) b) (at + 2) c) (set-put d at a (omega arith))
    ∙ ap (λ (l : List ℕ). set l (at + 2) c) (put-set d at (a ∷ []) (at + 1) b refl (omega arith))
    ∙ put-set d at (a ∷ b ∷ []) (at + 2) c refl (omega arith)

pub put_four : (d : List ℕ) (at a b c e : ℕ) → at + 4 ≤ length d
    → set (set (set (set d at a) (at + 1) b) (at + 2) c) (at + 3) e ≡ put d at (a ∷ b ∷ c ∷ e ∷ [])
put_four d at a b c e h =
    ap (λ (l : List ℕ). set l (at + 3) e) (put_three d at a b c (omega arith)) ∙ put-set d at (a ∷ b ∷ c ∷ []) (at + 3) e refl (omega arith)

-- a put of as many bytes as there are
pub put_all : (d p : List ℕ) → length p ≡ length d → put d 0 p ≡ p
unfolding put
put_all d p e = simp (zero-add, e, drop-length, append-nil)

-- a part that was lent and came back with other bytes
pub part-put : (a k : ℕ) (xs ys : List ℕ) → length ys ≡ k → put_mid a k xs ys ≡ put xs a ys
unfolding put
part-put a k xs ys e = simp (drop-drop, e)

-- a copy with one byte more
pub copy_more : (s d : List ℕ) (at i : ℕ) → i < length s → at + i < length d → set (put d at (take i s)) (at + i) (get_or s i 0) ≡ put d at (take (i + 1) s)
copy_more s d at i h k =
    let len : length (take i s) ≡ i = length-take-le i s (omega arith) in
    put-set d at (take i s) (at + i) (get_or s i 0) (simp len) k ∙ simp (add-one, take-suc s i 0)

-- what was put at the start is found there
pub take_put : (d p : List ℕ) → take (length p) (put d 0 p) ≡ p
unfolding put
take_put d p = take_at p (drop (0 + length p) d) (length p) refl
