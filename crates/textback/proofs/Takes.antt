-- What each printed word does to a line that is read.
-- Assumes nothing.
use mathlib.Core.Path.{◌≡◌, refl, ap, ◌∙◌}
use mathlib.Core.Bool.{Bool, true, false, cond}
use mathlib.Core.List.{List, [], ◌∷◌, ◌++◌}
use Prim.Native.Nat.{ℕ, zero, suc, ◌/◌, ◌%◌, ◌^◌, ◌<◌}
use native.Mathlib.Omega.{arith}
use borrow.Author.Tests.{lt-ltb, ne_eqb, eqb-true}
use lib.Dec.{eqb}
use lib.ListN.{length}
use Rattle.calls.specs.declared.Event.{Event}
use Rattle.words.specs.Table.{tab}
use Rattle.buffers.proofs.Joined.{split}
use Rattle.words.proofs.Cases.{either, tested}
use Rattle.scan.specs.Bytes.{ascii, same}
use Rattle.scan.specs.Parts.{between, over}
use Rattle.scan.specs.Numbers.{worth, extended, figure, number}
use Rattle.kinds.specs.Names.{input_of}
use Rattle.kinds.specs.declared.Input.{Input}
use Rattle.kinds.specs.declared.Named.{Named}
use Rattle.kinds.proofs.Names.{Word, First}
use Rattle.text.specs.Decimal.{decimal}
use Rattle.text.proofs.Decimal.{length_decimal, figures-decimal}
use Rattle.textin.specs.declared.Reading.{Reading}
use Rattle.std.specs.Prelude.{Some, None, Result, Ok}
use Rattle.textin.specs.declared.Line.{Line}
use Rattle.textin.specs.declared.Wanted.{Wanted}
use Rattle.textin.specs.declared.Stage.{Stage}
use Rattle.textin.specs.declared.Stage.TheVariants.{Fields, Step, Inputs, Times, End}
use Rattle.textin.specs.Readings.{with_field, room, raised, at, starting, begun, take_kind, take_field, take_star, take_last, take_input, take_step, take_times, take_at, take_some, take_word, whole, said_at, finished}
use Rattle.textout.specs.Prints.{times_text}
use Rattle.textback.proofs.Figures.{read, some-decimal, read-decimal}
use Rattle.textback.proofs.Walk.{word-figures, Kept, kept-none, kept_append, kept-led, led, reads, reads_end, reads-led, reads-last}

take-some : (s : Reading) (w : List ℕ) → 0 < length w → take_word s w ≡ take_some s w
unfolding take_word
take-some s w h = rw (ne_eqb (length w) 0 (λ e. omega arith))

-- ---- the first word

pub take-first : {w : List ℕ} {n : Named} → First w n → take_word starting w ≡ begun starting (Some n)
unfolding take_some take_at take_kind
take-first {w} f = take-some starting w f.some ∙ ap (begun starting) f.names

-- ---- a field

field-taken : (left : ℕ) (x : Stage) (e : Event) (w : List ℕ) (n : ℕ) → number w ≡ read n → n < room (left % 8)
    → take_field left (at x 1 e) w ≡ at (Fields (left / 8)) 1 (with_field e (left % 8) n)
unfolding take_field
field-taken left x e w n r h = rw (r, lt-ltb n (room (left % 8)) h)

-- also where it is a selector that comes last
last-taken : (left : ℕ) (x : Stage) (e : Event) (w : List ℕ) (n : ℕ) → left ≡ 3 → number w ≡ read n → n < room (left % 8)
    → take_last (at x 1 e) w ≡ at (Fields (left / 8)) 1 (with_field e (left % 8) n)
unfolding take_last
last-taken left x e w n q r h = let k = rw q at h in rw r (field-taken 3 x e w n r k ∙ rw q refl)

pub take-field : (left : ℕ) (e : Event) (w : List ℕ) (n : ℕ) → 0 < length w → 0 < left → number w ≡ read n → n < room (left % 8)
    → take_word (at (Fields left) 1 e) w ≡ at (Fields (left / 8)) 1 (with_field e (left % 8) n)
unfolding take_some take_at
take-field left e w n s l r h =
    take-some (at (Fields left) 1 e) w s
    ∙ rw (ne_eqb left 0 (λ q. omega (arith, q)))
    (tested (λ (t : Reading). t ≡ at (Fields (left / 8)) 1 (with_field e (left % 8) n)) (eqb left 3)
    (λ q. last-taken left (Fields left) e w n (eqb-true left 3 q) r h)
    (λ q. field-taken left (Fields left) e w n r h))

-- ---- an input, behind `step` or another input

abbrev pub behind : Bool → Event → Reading
behind some e = at (cond some Inputs Step) 1 e

pub take-input : (some : Bool) (e : Event) (w : List ℕ) (u : Input) → 0 < length w → number w ≡ None → input_of w ≡ Some u
    → take_word (behind some e) w ≡ behind true (raised e u)
unfolding take_some take_at take_step take_input
take-input true e w u s n i = take-some (behind true e) w s ∙ rw i
take-input false e w u s n i = take-some (behind false e) w s ∙ rw (n, i)

-- ---- how many times

abbrev star : List ℕ
star = 42 ∷ []

star-no-number : number star ≡ None
unfolding number figure extended worth over same ascii tab
star-no-number = refl

star-no-input : input_of star ≡ None
unfolding input_of figure
star-no-input = refl

-- a line at a stage at which it may end or be repeated: behind the fields, or before a selector that comes last, or behind `step`
abbrev pub ended : Bool → Bool → Event → Reading
ended fields some e = cond fields (at (Fields (cond some 3 0)) 1 e) (behind some e)

take-star : (fields some : Bool) (e : Event) → take_word (ended fields some e) star ≡ at Times 1 e
unfolding take_word take_some take_at take_step take_input take_last take_star same ascii tab
take-star true true e = rw star-no-number
take-star true false e = refl
take-star false true e = rw star-no-input
take-star false false e = rw (star-no-number, star-no-input)

take-times : (e : Event) (n : ℕ) → 0 < n → n < 2 ^ 32 → take_word (at Times 1 e) (decimal n) ≡ at End n e
unfolding take_some take_at take_times
take-times e n z h =
    take-some (at Times 1 e) (decimal n) (some-decimal n)
    ∙ rw (read-decimal n (omega arith), ne_eqb n 0 (λ q. omega (arith, q)), lt-ltb n (2 ^ 32) h)

star-word : Word star
unfolding between
star-word zero h = (refl, refl)
star-word (suc j) h = absurd (omega arith)

times-bytes : (n : ℕ) → (n ≡ 1 → ⊥) → times_text n ≡ (32 ∷ star) ++ (32 ∷ decimal n)
unfolding times_text ascii tab
times-bytes n h = rw (ne_eqb n 1 h)

pub led-times : (n : ℕ) → led (times_text n) ≡ true
unfolding times_text ascii tab
led-times n = either (λ l. led l ≡ true) (eqb n 1) refl refl

abbrev pub said : ℕ → Event → Result Line Wanted
said n e = Ok (record { times = n; event = e })

once : (fields some : Bool) (e : Event) → finished (ended fields some e) ≡ said 1 e
unfolding finished said_at whole
once true true e = refl
once true false e = refl
once false true e = refl
once false false e = refl

times-once : times_text 1 ≡ []
unfolding times_text
times-once = refl

said-times : (n : ℕ) (e : Event) → finished (at End n e) ≡ said n e
unfolding finished said_at whole
said-times n e = refl

reads_times : (fields some : Bool) (e : Event) (n : ℕ) → 0 < n → n < 2 ^ 32 → (n ≡ 1 → ⊥) → reads (ended fields some e) (times_text n) ≡ at End n e
reads_times fields some e n z h o =
    ap (reads (ended fields some e)) (times-bytes n o)
    ∙ reads-led (ended fields some e) star (32 ∷ decimal n) star-word refl
    ∙ ap (λ (s : Reading). reads s (32 ∷ decimal n)) (take-star fields some e)
    ∙ reads-last (at Times 1 e) (decimal n) (word-figures 58 (decimal n) (figures-decimal n))
    ∙ take-times e n z h

-- the event n times
pub repeated : (fields some : Bool) (e : Event) (n : ℕ) → 0 < n → n < 2 ^ 32 → finished (reads (ended fields some e) (times_text n)) ≡ said n e
repeated fields some e n z h = split 2 n (λ m. many (λ o. omega (arith, o))) (λ m. one (omega arith))
  where
    one : n ≡ 1 → finished (reads (ended fields some e) (times_text n)) ≡ said n e
    one o = rw o (ap (λ (l : List ℕ). finished (reads (ended fields some e) l)) times-once ∙ ap finished (reads_end (ended fields some e)) ∙ once fields some e)

    many : (n ≡ 1 → ⊥) → finished (reads (ended fields some e) (times_text n)) ≡ said n e
    many o = ap finished (reads_times fields some e n z h o) ∙ said-times n e

pub kept-times : (n : ℕ) → Kept 23 (times_text n)
unfolding times_text ascii tab
kept-times n =
    either (Kept 23) (eqb n 1) (kept-none 23)
    (kept_append 2 21 (32 ∷ star) (32 ∷ decimal n) (kept-led 1 star star-word (omega arith))
    (kept-led 20 (decimal n) (word-figures 58 (decimal n) (figures-decimal n)) (length_decimal n)))
