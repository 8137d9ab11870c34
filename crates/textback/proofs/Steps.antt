-- The line of a step that names its inputs is read as the step.
-- Assumes nothing.
use mathlib.Core.Path.{◌≡◌, refl, ap, sym, ◌∙◌}
use mathlib.Core.Bool.{Bool, true, false, cond, ◌&&◌}
use mathlib.Core.List.{List, [], ◌∷◌, ◌++◌, append_assoc}
use Prim.Native.Nat.{ℕ, zero, suc, ◌^◌, ◌≤◌, ◌<◌}
use native.Mathlib.Omega.{arith}
use borrow.Author.Tests.{lt-ltb, le-ltb, eq-eqb, ne_eqb}
use lib.Dec.{eqb, ltb}
use lib.ListN.{length}
use lib.Pow.{pow_pos}
use Rattle.words.specs.Bits.{bit, word, put_bit}
use Rattle.words.proofs.BitLaws.{bit_word, bit-none, word-ext, word-own}
use Rattle.words.proofs.Cases.{either}
use Rattle.buffers.specs.Pieces.{joined}
use Rattle.buffers.proofs.Joined.{split}
use Rattle.calls.specs.Events.{lines}
use Rattle.calls.specs.declared.Event.{Event}
use Rattle.std.specs.Prelude.{Some, None}
use Rattle.scan.specs.Numbers.{number}
use Rattle.kinds.specs.declared.Input.{Input}
use Rattle.kinds.specs.declared.Input.TheVariants.{Line, Pin}
use Rattle.kinds.specs.Names.{name, input_of, input_name, pin_name}
use Rattle.kinds.proofs.Names.{Word, first_kind, input-named, pin-named, input-no-number, pin-no-number, input-word, pin-word, input-length, pin-length, pin-some}
use Rattle.textin.specs.declared.Reading.{Reading}
use Rattle.textin.specs.Readings.{raised, starting, begun}
use Rattle.textout.specs.Prints.{input_text, pin_text, step_text}
use Rattle.textback.proofs.Walk.{Kept, kept-none, kept_append, kept-led, kept-joined, led, led-append, led-joined, reads, reads_word, reads-led}
use Rattle.textback.proofs.Takes.{take-first, take-input, behind, ended}
use Rattle.textback.proofs.Calls.{kept-first}

-- ---- one word of bits: inputs are named from bit 0 on

-- the bits of v below n, in a word of the given size
up_to : ℕ → ℕ → ℕ → ℕ
up_to size n v = word size (λ j. ltb j n && bit v j)

three : {X : Type 0} (a b : ℕ) → (a < b → X) → (a ≡ b → X) → (b < a → X) → X
three a b less same more = split b a (λ m. split (suc b) a (λ n. more (omega arith)) (λ n. same (omega arith))) less

-- one bit more
up-bit : (size n v : ℕ) → n < size → bit v n ≡ true → put_bit size n true (up_to size n v) ≡ up_to size (suc n) v
unfolding up_to
up-bit size n v h b = word-ext size _ _ each
  where
    each : (j : ℕ) → j < size → cond (eqb j n) true (bit (word size (λ j. ltb j n && bit v j)) j) ≡ (ltb j (suc n) && bit v j)
    each j k =
        rw (bit_word size (λ j. ltb j n && bit v j) j k)
        (three j n
        (λ m. rw (ne_eqb j n (λ q. omega (arith, q)), lt-ltb j n m, lt-ltb j (suc n) (omega arith)))
        (λ m. rw (eq-eqb j n m, lt-ltb j (suc n) (omega (arith, m)), m, b))
        (λ m. rw (ne_eqb j n (λ q. omega (arith, q)), le-ltb j n (omega arith), le-ltb j (suc n) m)))

no-bit : (size n v : ℕ) → bit v n ≡ false → up_to size n v ≡ up_to size (suc n) v
unfolding up_to
no-bit size n v b = word-ext size _ _ each
  where
    each : (j : ℕ) → j < size → (ltb j n && bit v j) ≡ (ltb j (suc n) && bit v j)
    each j k =
        three j n
        (λ m. rw (lt-ltb j n m, lt-ltb j (suc n) (omega arith)))
        (λ m. rw (m, b, le-ltb n n (omega arith), lt-ltb n (suc n) (omega arith)))
        (λ m. rw (le-ltb j n (omega arith), le-ltb j (suc n) m))

-- no bits
up_none : (size v : ℕ) → up_to size 0 v ≡ 0
unfolding up_to
up_none size v =
    word-ext size _ _ (λ j k. rw (le-ltb j 0 (omega arith)) (sym (bit-none j))) ∙ word-own size 0 (pow_pos size)

-- all bits
up-all : (size v : ℕ) → v < 2 ^ size → up_to size size v ≡ v
unfolding up_to
up-all size v h = word-ext size _ _ (λ j k. rw (lt-ltb j size k)) ∙ word-own size v h

-- ---- the names of one word's bits

-- what is said of the names: of the inputs at the bits of V, and of the pins
record Named (size : ℕ) (input : ℕ → Input) (called : ℕ → List ℕ) : Type 0 where
  pub word : (i : ℕ) → i < size → Word (called i)
  pub some : (i : ℕ) → i < size → 0 < length (called i)
  pub short : (i : ℕ) → i < size → length (called i) ≤ 3
  pub other : (i : ℕ) → i < size → number (called i) ≡ None
  pub says : (i : ℕ) → i < size → input_of (called i) ≡ Some (input i)

inputs : Named 18 Line input_name
inputs = record {
  word = input-word;
  some = λ i h. omega (arith, input-length i);
  short = λ i h. omega (arith, input-length i);
  other = input-no-number;
  says = input-named;
}

pins : Named 48 Pin pin_name
pins = record {
  word = pin-word;
  some = λ i h. pin-some i;
  short = λ i h. pin-length i;
  other = pin-no-number;
  says = pin-named;
}

module _ (size : ℕ) (input : ℕ → Input) (called : ℕ → List ℕ) (N : Named size input called) (v : ℕ) where
  -- a space and the name of a bit that is 1
  called_at : ℕ → List ℕ
  called_at i = cond (bit v i) (32 ∷ called i) []

  -- whether a name has come, and the event with the bits below n
  some_up : ℕ → Bool → Bool
  some_up zero some = some
  some_up (suc n) some = cond (bit v n) true (some_up n some)

  with-up : ℕ → Event → Event
  with-up zero e = e
  with-up (suc n) e = cond (bit v n) (raised (with-up n e) (input n)) (with-up n e)

  led-at : (i : ℕ) → led (called_at i) ≡ true
  unfolding called_at
  led-at i = either (λ l. led l ≡ true) (bit v i) refl refl

  kept_at : (i : ℕ) → i < size → Kept 4 (called_at i)
  unfolding called_at
  kept_at i h = either (Kept 4) (bit v i) (kept-led 3 (called i) (N.word i h) (N.short i h)) (kept-none 4)

  reads-one : (n : ℕ) (some : Bool) (e : Event) (l : List ℕ) → n < size → led l ≡ true
      → reads (behind some e) (called_at n ++ l)
      ≡ reads (behind (cond (bit v n) true some) (cond (bit v n) (raised e (input n)) e)) l
  unfolding called_at
  reads-one n some e l b h = by (bit v n)
    where
      by : (t : Bool) → reads (behind some e) (cond t (32 ∷ called n) [] ++ l)
          ≡ reads (behind (cond t true some) (cond t (raised e (input n)) e)) l
      by true =
          reads-led (behind some e) (called n) l (N.word n b) h
          ∙ ap (λ (s : Reading). reads s l)
          (take-input some e (called n) (input n) (N.some n b) (N.other n b) (N.says n b))
      by false = refl

  reads_up : (n : ℕ) (some : Bool) (e : Event) (l : List ℕ) → n ≤ size → led l ≡ true
      → reads (behind some e) (joined n called_at ++ l) ≡ reads (behind (some_up n some) (with-up n e)) l
  unfolding joined some_up with-up
  reads_up zero some e l b h = refl
  reads_up (suc n) some e l b h =
      ap (reads (behind some e)) (append_assoc (joined n called_at) (called_at n) l)
      ∙ reads_up n some e (called_at n ++ l) (omega arith) (led-append (called_at n) l (led-at n) h)
      ∙ reads-one n (some_up n some) (with-up n e) l (omega arith) h

  -- where the event is made of the word
  module _ (made : ℕ → Event) (raise : (x n : ℕ) → raised (made x) (input n) ≡ made (put_bit size n true x)) where
    made_up : (n : ℕ) → n ≤ size → with-up n (made 0) ≡ made (up_to size n v)
    unfolding with-up
    made_up zero h = ap made (sym (up_none size v))
    made_up (suc n) h = by (bit v n) refl (made_up n (omega arith))
      where
        by : (t : Bool) → bit v n ≡ t → with-up n (made 0) ≡ made (up_to size n v)
            → cond t (raised (with-up n (made 0)) (input n)) (with-up n (made 0)) ≡ made (up_to size (suc n) v)
        by true b e =
            ap (λ (x : Event). raised x (input n)) e
            ∙ raise (up_to size n v) n
            ∙ ap made (up-bit size n v (omega arith) b)
        by false b e = e ∙ ap made (no-bit size n v b)

    -- all names are read as the word
    reads_all : (some : Bool) (l : List ℕ) → v < 2 ^ size → led l ≡ true
        → reads (behind some (made 0)) (joined size called_at ++ l) ≡ reads (behind (some_up size some) (made v)) l
    reads_all some l b h =
        reads_up size some (made 0) l (omega arith) h
        ∙ ap (λ (e : Event). reads (behind (some_up size some) e) l) (made_up size (omega arith) ∙ ap made (up-all size v b))

-- ---- V, then W

raise-input : (x n : ℕ) → raised (lines x 0) (Line n) ≡ lines (put_bit 18 n true x) 0
unfolding raised
raise-input x n = refl

raise-pin : (v x n : ℕ) → raised (lines v x) (Pin n) ≡ lines v (put_bit 48 n true x)
unfolding raised
raise-pin v x n = refl

-- whether an input or a pin is up
pub any-up : ℕ → ℕ → Bool
any-up v w = some_up 48 Pin pin_name pins w 48 (some_up 18 Line input_name inputs v 18 false)

pub reads-step : (e : Event) (l : List ℕ) → e ≡ lines e.v e.w → e.v < 2 ^ 18 → e.w < 2 ^ 48 → led l ≡ true
    → reads starting (step_text e ++ l) ≡ reads (ended false (any-up e.v e.w) e) l
unfolding step_text input_text pin_text called_at any-up begun
reads-step e l q v w h =
    ap (reads starting) (append_assoc (name 0) (input-names ++ pin-names) l)
    ∙ reads_word starting (name 0) ((input-names ++ pin-names) ++ l) (first_kind 0 (omega arith)).word (led-append (input-names ++ pin-names) l (led-append input-names pin-names led-inputs led-pins) h)
    ∙ ap (λ (s : Reading). reads s ((input-names ++ pin-names) ++ l)) (take-first (first_kind 0 (omega arith)))
    ∙ ap (reads (behind false (lines 0 0))) (append_assoc input-names pin-names l)
    ∙ reads_all 18 Line input_name inputs e.v (λ x. lines x 0) raise-input false (pin-names ++ l) v (led-append pin-names l led-pins h)
    ∙ reads_all 48 Pin pin_name pins e.w (lines e.v) (raise-pin e.v) (some_up 18 Line input_name inputs e.v 18 false) l w h
    ∙ ap (λ (x : Event). reads (behind (any-up e.v e.w) x) l) (sym q)
  where
    input-names : List ℕ
    input-names = joined 18 (called_at 18 Line input_name inputs e.v)

    pin-names : List ℕ
    pin-names = joined 48 (called_at 48 Pin pin_name pins e.w)

    led-inputs : led input-names ≡ true
    led-inputs = led-joined 18 (called_at 18 Line input_name inputs e.v) (λ i k. led-at 18 Line input_name inputs e.v i)

    led-pins : led pin-names ≡ true
    led-pins = led-joined 48 (called_at 48 Pin pin_name pins e.w) (λ i k. led-at 48 Pin pin_name pins e.w i)

pub kept_step : (e : Event) → Kept 289 (step_text e)
unfolding step_text input_text pin_text called_at
kept_step e =
    kept_append 25 264 (name 0) (joined 18 (called_at 18 Line input_name inputs e.v) ++ joined 48 (called_at 48 Pin pin_name pins e.w))
    (kept-first (first_kind 0 (omega arith)))
    (kept_append 72 192 (joined 18 (called_at 18 Line input_name inputs e.v)) (joined 48 (called_at 48 Pin pin_name pins e.w))
    (kept-joined 4 18 (called_at 18 Line input_name inputs e.v) (kept_at 18 Line input_name inputs e.v))
    (kept-joined 4 48 (called_at 48 Pin pin_name pins e.w) (kept_at 48 Pin pin_name pins e.w)))
