-- How printed bytes are read: words with a space before each, in a line without comment.
-- Assumes nothing.
use mathlib.Core.Path.{◌≡◌, refl, ap, sym, ◌∙◌}
use mathlib.Core.Bool.{Bool, true, false}
use mathlib.Core.List.{List, [], ◌∷◌, ◌++◌, append_assoc, append-nil}
use Prim.Native.Nat.{ℕ, zero, suc, ◌+◌, ◌*◌, ◌≤◌, ◌<◌}
use native.Mathlib.Nat.{suc-mul}
use native.Mathlib.Omega.{arith}
use borrow.Author.Tests.{le-ltb, ne_eqb, ltb-false, eqb-true}
use lib.Dec.{eqb}
use lib.ListN.{length, get_or, length-append}
use Rattle.buffers.specs.Pieces.{joined}
use Rattle.scan.specs.declared.Between.TheVariants.{Words, Lines}
use Rattle.scan.specs.Parts.{parts, between, before, over}
use Rattle.scan.proofs.Parts.{parts-run, parts-byte, parts_cut, parts-end, before-byte}
use Rattle.kinds.proofs.Names.{Word}
use Rattle.text.proofs.Decimal.{Figures, figures-at}
use Rattle.textin.specs.declared.Reading.{Reading}
use Rattle.textin.specs.Readings.{take_word}

-- ---- words

pub word-figures : (m : ℕ) (l : List ℕ) → Figures m l → Word l
unfolding between
word-figures m l f j h =
    let b = figures-at m l f j h in
    (le-ltb (get_or l j 0) 33 (omega (arith, b.0)), ne_eqb (get_or l j 0) 35 (λ e. omega (arith, b.0, e)))

-- ---- bytes on one line and in no comment

pub record Quiet (l : List ℕ) : Type 0 where
  pub comment : (x : List ℕ) → before 35 (l ++ x) ≡ l ++ before 35 x
  pub line : (p x : List ℕ) → parts (between Lines) p (l ++ x) ≡ parts (between Lines) (p ++ l) x

quiet_none : Quiet []
quiet_none = record { comment = λ x. refl; line = λ p x. simp append-nil }

quiet-append : (k l : List ℕ) → Quiet k → Quiet l → Quiet (k ++ l)
quiet-append k l a b = record {
  comment = λ x. simp append_assoc (a.comment (l ++ x) ∙ ap (λ (y : List ℕ). k ++ y) (b.comment x));
  line = λ p x. simp append_assoc (a.line p (l ++ x) ∙ b.line (p ++ k) x ∙ simp append_assoc);
}

quiet-byte : (b : ℕ) → eqb b 35 ≡ false → eqb b 10 ≡ false → Quiet (b ∷ [])
unfolding between
quiet-byte b h k = record {
  comment = λ x. before-byte 35 b x h;
  line = λ p x. parts-byte (between Lines) p b x k;
}

quiet_word : (w : List ℕ) → Word w → Quiet w
unfolding between
quiet_word [] h = quiet_none
quiet_word (b ∷ w) h =
    quiet-append (b ∷ []) w (quiet-byte b (h 0 (omega arith)).1 (line (h 0 (omega arith)).0)) (quiet_word w (λ j k. h (suc j) (omega arith)))
  where
    line : between Words b ≡ false → eqb b 10 ≡ false
    line e = ne_eqb b 10 (λ q. omega (arith, ltb-false b 33 e, q))

-- and few
pub record Kept (m : ℕ) (l : List ℕ) : Type 0 where
  pub quiet : Quiet l
  pub short : length l ≤ m

pub kept-none : (m : ℕ) → Kept m []
kept-none m = record { quiet = quiet_none; short = omega arith }

pub kept_append : (m n : ℕ) (k l : List ℕ) → Kept m k → Kept n l → Kept (m + n) (k ++ l)
kept_append m n k l a b = record {
  quiet = quiet-append k l a.quiet b.quiet;
  short = let h = a.short in let i = b.short in simp length-append (omega arith);
}

pub kept_word : (m : ℕ) (w : List ℕ) → Word w → length w ≤ m → Kept m w
kept_word m w h b = record { quiet = quiet_word w h; short = b }

-- a space and a word
pub kept-led : (m : ℕ) (w : List ℕ) → Word w → length w ≤ m → Kept (1 + m) (32 ∷ w)
kept-led m w h b = kept_append 1 m (32 ∷ []) w (record { quiet = quiet-byte 32 refl refl; short = omega arith }) (kept_word m w h b)

pub kept-joined : (m n : ℕ) (f : ℕ → List ℕ) → ((i : ℕ) → i < n → Kept m (f i)) → Kept (n * m) (joined n f)
unfolding joined
kept-joined m zero f h = kept-none (zero * m)
kept-joined m (suc n) f h =
    rw (suc-mul n m) (kept_append (n * m) m (joined n f) (f n) (kept-joined m n f (λ i k. h i (omega arith))) (h n (omega arith)))

-- ---- reading

-- what is read from here on, where a word may have ended just before
unfoldable pub reads : Reading → List ℕ → Reading
reads s l = over take_word s (parts (between Words) [] l)

-- nothing, or a space and more
abbrev pub led : List ℕ → Bool
led [] = true
led (b ∷ l) = eqb b 32

pub led-append : (k l : List ℕ) → led k ≡ true → led l ≡ true → led (k ++ l) ≡ true
led-append [] l a b = b
led-append (x ∷ k) l a b = a

pub led-joined : (n : ℕ) (f : ℕ → List ℕ) → ((i : ℕ) → i < n → led (f i) ≡ true) → led (joined n f) ≡ true
unfolding joined
led-joined zero f h = refl
led-joined (suc n) f h = led-append (joined n f) (f n) (led-joined n f (λ i k. h i (omega arith))) (h n (omega arith))

take_none : (s : Reading) → take_word s [] ≡ s
unfolding take_word
take_none s = refl

pub reads_end : (s : Reading) → reads s [] ≡ s
unfolding reads over
reads_end s = rw (parts-end (between Words) []) (take_none s)

-- a word at the start of what follows
ends-word : (s : Reading) (w l : List ℕ) → led l ≡ true → over take_word s (parts (between Words) w l) ≡ reads (take_word s w) l
unfolding reads over between
ends-word s w [] h = rw (parts-end (between Words) w, parts-end (between Words) []) (sym (take_none (take_word s w)))
ends-word s w (b ∷ l) h =
    let e : b ≡ 32 = eqb-true b 32 h in
    rw (e, parts_cut (between Words) w 32 l refl, parts_cut (between Words) [] 32 l refl) (ap (λ (t : Reading). over take_word t (parts (between Words) [] l)) (sym (take_none (take_word s w))))

pub reads_word : (s : Reading) (w l : List ℕ) → Word w → led l ≡ true → reads s (w ++ l) ≡ reads (take_word s w) l
unfolding reads
reads_word s w l h k =
    ap (over take_word s) (parts-run (between Words) [] w l (λ j m. (h j m).0)) ∙ ends-word s w l k

space : (s : Reading) (l : List ℕ) → reads s (32 ∷ l) ≡ reads s l
unfolding reads over between
space s l =
    ap (over take_word s) (parts_cut (between Words) [] 32 l refl)
    ∙ ap (λ (t : Reading). over take_word t (parts (between Words) [] l)) (take_none s)

pub reads-led : (s : Reading) (w l : List ℕ) → Word w → led l ≡ true → reads s ((32 ∷ w) ++ l) ≡ reads (take_word s w) l
reads-led s w l h k = space s (w ++ l) ∙ reads_word s w l h k

-- the last word
pub reads-last : (s : Reading) (w : List ℕ) → Word w → reads s (32 ∷ w) ≡ take_word s w
reads-last s w h = ap (λ (l : List ℕ). reads s (32 ∷ l)) (sym (append-nil w)) ∙ reads-led s w [] h refl ∙ reads_end (take_word s w)
