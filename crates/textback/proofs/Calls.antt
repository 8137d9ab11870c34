-- The line of a call, and of any six fields, is read as the event.
-- Assumes nothing.
use mathlib.Core.Path.{◌≡◌, refl, ap, sym, subst, ◌∙◌}
use mathlib.Core.Bool.{Bool, true, false, cond, ◌&&◌, ◌||◌, and-eq-true_iff}
use mathlib.Core.List.{List, [], ◌∷◌, ◌++◌, append_assoc}
use Prim.Native.Nat.{ℕ, zero, suc, ◌+◌, ◌*◌, ◌/◌, ◌%◌, ◌^◌, ◌≤◌, ◌<◌}
use native.Mathlib.Nat.{mod-eq_of_lt}
use native.Mathlib.Omega.{arith}
use borrow.Author.Tests.{ne_eqb, ltb-true, eqb-true, eqb-false}
use lib.Dec.{eqb, ltb}
use lib.ListN.{length}
use Rattle.words.specs.Table.{tab}
use Rattle.words.proofs.Cases.{tested, either, neither}
use Rattle.calls.specs.Events.{call}
use Rattle.calls.specs.declared.Event.{Event}
use Rattle.text.specs.Decimal.{decimal}
use Rattle.text.proofs.Decimal.{length_decimal, figures-decimal}
use Rattle.std.specs.Prelude.{Some}
use Rattle.scan.specs.Numbers.{number}
use Rattle.textin.specs.declared.Stage.TheVariants.{Fields}
use Rattle.kinds.specs.declared.Named.{Named}
use Rattle.kinds.specs.declared.Named.TheVariants.{Kind, Raw}
use Rattle.kinds.specs.Names.{kinds, name, raw_name, fields_of, field_table, raw_fields}
use Rattle.kinds.proofs.Names.{Word, First, first_kind, first-raw}
use Rattle.words.proofs.Tables.{tab-at}
use Rattle.textin.specs.declared.Reading.{Reading}
use Rattle.textin.specs.Readings.{with_field, room, at, starting, begun}
use Rattle.textout.specs.Prints.{field_of, field_text, none_left, fields_text, has, usual, word_text, call_text, raw_text}
use Rattle.textback.proofs.Figures.{read, eight, some-decimal, read-decimal, figures-eight, some-eight, read-eight, length-eight}
use Rattle.textback.proofs.Walk.{word-figures, Kept, kept-none, kept_append, kept_word, kept-led, led, led-append, reads, reads_word, reads-led}
use Rattle.textback.proofs.Takes.{take-first, take-field, ended}

-- the fields hold no more than their bytes do
pub record Ranged (e : Event) : Type 0 where
  pub kind : e.kind < 2 ^ 8
  pub member : e.member < 2 ^ 8
  pub selector : e.selector < 2 ^ 8
  pub spare : e.spare < 2 ^ 8
  pub v : e.v < 2 ^ 32
  pub w : e.w < 2 ^ 64

module _ (e : Event) (r : Ranged e) where
  field_room : (f : ℕ) → 0 < f → f < 7 → field_of e f < room f
  unfolding field_of room
  field_room zero z h = absurd (omega arith)
  field_room (suc zero) z h = r.kind
  field_room (suc (suc zero)) z h = r.member
  field_room (suc (suc (suc zero))) z h = r.selector
  field_room (suc (suc (suc (suc zero)))) z h = r.spare
  field_room (suc (suc (suc (suc (suc zero))))) z h = r.v
  field_room (suc (suc (suc (suc (suc (suc zero)))))) z h = r.w
  field_room (suc (suc (suc (suc (suc (suc (suc f))))))) z h = absurd (omega arith)

  room_most : (f : ℕ) → room f ≤ 2 ^ 64
  unfolding room
  room_most f = either (λ n. n ≤ 2 ^ 64) (ltb f 5) (omega arith) (either (λ n. n ≤ 2 ^ 64) (eqb f 5) (omega arith) (omega arith))

  -- a field's text is a word that is read as the field
  record Written (f : ℕ) (l : List ℕ) : Type 0 where
    pub word : Word l
    pub some : 0 < length l
    pub short : length l ≤ 20
    pub says : number l ≡ read (field_of e f)

  written : (f : ℕ) → 0 < f → f < 7 → Written f (field_text e f)
  unfolding field_text eight field_of
  written f z h = tested (Written f) (eqb f 5 && eqb e.kind 1) hex dec
    where
      dec : (eqb f 5 && eqb e.kind 1) ≡ false → Written f (decimal (field_of e f))
      dec t = record {
        word = word-figures 58 (decimal (field_of e f)) (figures-decimal (field_of e f));
        some = some-decimal (field_of e f);
        short = length_decimal (field_of e f);
        says = read-decimal (field_of e f) (omega (arith, field_room f z h, room_most f));
      }

      hex : (eqb f 5 && eqb e.kind 1) ≡ true → Written f (eight e.v)
      hex t = let five = eqb-true f 5 ((and-eq-true_iff (eqb f 5) (eqb e.kind 1)).0 t).0 in record {
        word = word-figures 121 (eight e.v) (figures-eight e.v);
        some = some-eight e.v;
        short = omega (arith, length-eight e.v);
        says = read-eight e.v r.v ∙ ap read (ap (field_of e) (sym five));
      }

-- ---- the fields that are left, n at most

-- which they are
good_left : ℕ → ℕ → Bool
good_left zero left = true
good_left (suc n) left = cond (eqb left 0) true (ltb 0 (left % 8) && (ltb (left % 8) 7 && good_left n (left / 8)))

-- where one is left to print, it is a field, and so are those behind it
record Left (n left : ℕ) : Type 0 where
  pub some : 0 < left % 8
  pub field : left % 8 < 7
  pub rest : good_left n (left / 8) ≡ true

some_left : (left : ℕ) (e : Event) → none_left left e ≡ false → eqb left 0 ≡ false
unfolding none_left
some_left left e h = (neither (eqb left 0) (eqb left 3 && eqb e.selector 0) h).0

left-more : (n left : ℕ) (e : Event) → good_left (suc n) left ≡ true → none_left left e ≡ false → Left n left
unfolding good_left
left-more n left e g q =
    let a = (and-eq-true_iff (ltb 0 (left % 8)) (ltb (left % 8) 7 && good_left n (left / 8))).0 (rw (some_left left e q) at g) in
    let b = (and-eq-true_iff (ltb (left % 8) 7) (good_left n (left / 8))).0 a.1 in
    record { some = ltb-true 0 (left % 8) a.0; field = ltb-true (left % 8) 7 b.0; rest = b.1 }

-- whether the selector is 0, and by that whether nothing is left to print
abbrev unselected : Event → Bool
unselected e = eqb e.selector 0

stops : Bool → ℕ → Bool
stops z left = eqb left 0 || (eqb left 3 && z)

-- what is left behind them, and the event with them
left_over : Bool → ℕ → ℕ → ℕ
left_over z zero left = left
left_over z (suc n) left = cond (stops z left) left (left_over z n (left / 8))

filled : Bool → ℕ → ℕ → Event → Event → Event
filled z zero left f e = f
filled z (suc n) left f e = cond (stops z left) f (filled z n (left / 8) (with_field f (left % 8) (field_of e (left % 8))) e)

led-fields : (n left : ℕ) (e : Event) → led (fields_text n left e) ≡ true
unfolding fields_text
led-fields zero left e = refl
led-fields (suc n) left e = either (λ l. led l ≡ true) (none_left left e) refl refl

-- one field, and the rest
reads-field : (n left : ℕ) (f e : Event) (l : List ℕ) → Ranged e → 0 < left → 0 < left % 8 → left % 8 < 7 → led l ≡ true
    → reads (at (Fields left) 1 f) (((32 ∷ field_text e (left % 8)) ++ fields_text n (left / 8) e) ++ l)
    ≡ reads (at (Fields (left / 8)) 1 (with_field f (left % 8) (field_of e (left % 8)))) (fields_text n (left / 8) e ++ l)
reads-field n left f e l r p z m h =
    let x = written e r (left % 8) z m in
    ap (reads (at (Fields left) 1 f)) (append_assoc (32 ∷ field_text e (left % 8)) (fields_text n (left / 8) e) l)
    ∙ reads-led (at (Fields left) 1 f) (field_text e (left % 8)) (fields_text n (left / 8) e ++ l) x.word
    (led-append (fields_text n (left / 8) e) l (led-fields n (left / 8) e) h)
    ∙ ap (λ (s : Reading). reads s (fields_text n (left / 8) e ++ l))
    (take-field left f (field_text e (left % 8)) (field_of e (left % 8)) x.some p x.says (field_room e r (left % 8) z m))

reads-fields : (n left : ℕ) (f e : Event) (l : List ℕ) → Ranged e → good_left n left ≡ true → led l ≡ true
    → reads (at (Fields left) 1 f) (fields_text n left e ++ l) ≡ reads (at (Fields (left_over (unselected e) n left)) 1 (filled (unselected e) n left f e)) l
unfolding fields_text none_left stops left_over filled
reads-fields zero left f e l r g h = refl
reads-fields (suc n) left f e l r g h =
    more (none_left left e) refl (λ k. reads-fields n (left / 8) (with_field f (left % 8) (field_of e (left % 8))) e l r k h)
  where
    more : (t : Bool) → none_left left e ≡ t
        → (good_left n (left / 8) ≡ true
        → reads (at (Fields (left / 8)) 1 (with_field f (left % 8) (field_of e (left % 8)))) (fields_text n (left / 8) e ++ l)
        ≡ reads (at (Fields (left_over (unselected e) n (left / 8))) 1
        (filled (unselected e) n (left / 8) (with_field f (left % 8) (field_of e (left % 8))) e)) l)
        → reads (at (Fields left) 1 f) (cond t [] ((32 ∷ field_text e (left % 8)) ++ fields_text n (left / 8) e) ++ l)
        ≡ reads (at (Fields (cond t left (left_over (unselected e) n (left / 8)))) 1
        (cond t f (filled (unselected e) n (left / 8) (with_field f (left % 8) (field_of e (left % 8))) e))) l
    more true q i = refl
    more false q i =
        let m = left-more n left e g q in
        reads-field n left f e l r (omega (arith, eqb-false left 0 (some_left left e q))) m.some m.field h ∙ i m.rest

-- ---- the fields of a kind

-- the selector is left out: of kind 25, whose last field it is, where it is 0
pub left_out : ℕ → Event → Bool
left_out k e = eqb k 25 && unselected e

left_over_lem : (e : Event) (k : ℕ) → k < kinds → left_over (unselected e) 6 (fields_of k) ≡ cond (left_out k e) 3 0
unfolding stops left_over left_out fields_of field_table tab
left_over_lem e = tab-at kinds (λ k. left_over (unselected e) 6 (fields_of k)) (λ k. cond (left_out k e) 3 0) refl

good_left_lem : (k : ℕ) → k < kinds → good_left 6 (fields_of k) ≡ true
unfolding good_left fields_of field_table tab
good_left_lem = tab-at kinds (λ k. good_left 6 (fields_of k)) (λ k. true) refl

-- the fields of kind k, the others 0
chosen : ℕ → Event → Event
chosen k e = record {
  kind = k;
  member = cond (has (fields_of k) 2) (e.member % 2 ^ 8) 0;
  selector = cond (has (fields_of k) 3) (e.selector % 2 ^ 8) 0;
  spare = cond (has (fields_of k) 4) (e.spare % 2 ^ 8) 0;
  v = cond (has (fields_of k) 5) (e.v % 2 ^ 32) 0;
  w = cond (has (fields_of k) 6) (e.w % 2 ^ 64) 0;
}

-- the event with selector s
abbrev selected : ℕ → Event → Event
selected s e = record { kind = e.kind; member = e.member; selector = s; spare = e.spare; v = e.v; w = e.w }

filled-chosen : (z : Bool) (e : Event) → unselected e ≡ z → (k : ℕ) → k < kinds → filled z 6 (fields_of k) (call k 0 0) e ≡ chosen k e
unfolding stops filled with_field field_of chosen has fields_of field_table tab
filled-chosen true e q k h =
    subst (λ (s : ℕ). filled true 6 (fields_of k) (call k 0 0) (selected s e) ≡ chosen k (selected s e)) (sym (eqb-true e.selector 0 q))
    (tab-at kinds (λ k. filled true 6 (fields_of k) (call k 0 0) (selected 0 e)) (λ k. chosen k (selected 0 e)) refl k h)
filled-chosen false e q k h = tab-at kinds (λ k. filled false 6 (fields_of k) (call k 0 0) e) (λ k. chosen k e) refl k h

filled-raw : (z : Bool) (e : Event) → filled z 6 raw_fields (call 0 0 0) e
    ≡ record {
      kind = e.kind % 2 ^ 8;
      member = e.member % 2 ^ 8;
      selector = e.selector % 2 ^ 8;
      spare = e.spare % 2 ^ 8;
      v = e.v % 2 ^ 32;
      w = e.w;
    }
unfolding stops filled with_field field_of
filled-raw z e = refl

-- a field that is among them or 0
picked : (t : Bool) (m n : ℕ) → n < m → (t || eqb n 0) ≡ true → cond t (n % m) 0 ≡ n
picked true m n h u = mod-eq_of_lt h
picked false m n h u = sym (eqb-true n 0 u)

pub record Usual (e : Event) : Type 0 where
  pub member : usual e 2 ≡ true
  pub selector : usual e 3 ≡ true
  pub spare : usual e 4 ≡ true
  pub v : usual e 5 ≡ true
  pub w : usual e 6 ≡ true

chosen-same : (e : Event) → Ranged e → Usual e → chosen e.kind e ≡ e
unfolding chosen usual field_of
chosen-same e r u = λ i. record {
  kind = e.kind;
  member = picked (has (fields_of e.kind) 2) (2 ^ 8) e.member r.member u.member i;
  selector = picked (has (fields_of e.kind) 3) (2 ^ 8) e.selector r.selector u.selector i;
  spare = picked (has (fields_of e.kind) 4) (2 ^ 8) e.spare r.spare u.spare i;
  v = picked (has (fields_of e.kind) 5) (2 ^ 32) e.v r.v u.v i;
  w = picked (has (fields_of e.kind) 6) (2 ^ 64) e.w r.w u.w i;
}

raw_same : (e : Event) → Ranged e → filled (unselected e) 6 raw_fields (call 0 0 0) e ≡ e
raw_same e r = filled-raw (unselected e) e ∙ (λ i. record {
  kind = mod-eq_of_lt r.kind i;
  member = mod-eq_of_lt r.member i;
  selector = mod-eq_of_lt r.selector i;
  spare = mod-eq_of_lt r.spare i;
  v = mod-eq_of_lt r.v i;
  w = e.w;
})

-- ---- the bytes of the fields, and of the first word

kept-fields : (n left : ℕ) (e : Event) → Ranged e → good_left n left ≡ true → Kept (n * 21) (fields_text n left e)
unfolding fields_text
kept-fields zero left e r g = kept-none 0
kept-fields (suc n) left e r g = more (none_left left e) refl (kept-fields n (left / 8) e r)
  where
    more : (t : Bool) → none_left left e ≡ t → (good_left n (left / 8) ≡ true → Kept (n * 21) (fields_text n (left / 8) e))
        → Kept (suc n * 21) (cond t [] ((32 ∷ field_text e (left % 8)) ++ fields_text n (left / 8) e))
    more true q i = kept-none (suc n * 21)
    more false q i =
        let m = left-more n left e g q in
        let x = written e r (left % 8) m.some m.field in
        let s : 20 + 1 + n * 21 ≡ suc n * 21 = omega arith in
        rw (← s) (kept_append 21 (n * 21) (32 ∷ field_text e (left % 8)) (fields_text n (left / 8) e) (kept-led 20 (field_text e (left % 8)) x.word x.short) (i m.rest))

pub kept-first : {w : List ℕ} {n : Named} → First w n → Kept 25 w
kept-first {w} f = kept_word 25 w f.word f.short

-- ---- the line

-- the word names no step, and these fields of an event of kind k follow it
record Heads (w : List ℕ) (fields k : ℕ) : Type 0 where
  pub named : Named
  pub first : First w named
  pub begins : begun starting (Some named) ≡ at (Fields fields) 1 (call k 0 0)
  pub good : good_left 6 fields ≡ true

heads-kind : (k : ℕ) → 0 < k → k < kinds → Heads (name k) (fields_of k) k
unfolding begun
heads-kind k z b = record { named = Kind k; first = first_kind k b; begins = rw (ne_eqb k 0 (λ q. omega (arith, q))); good = good_left_lem k b }

heads-raw : Heads raw_name raw_fields 0
unfolding begun good_left
heads-raw = record { named = Raw; first = first-raw; begins = refl; good = refl }

module _ {w : List ℕ} {fields k : ℕ} (H : Heads w fields k) (e : Event) (r : Ranged e) where
  -- the word and the fields, where they make up event e
  reads-headed : (out : Bool) (l : List ℕ) → left_over (unselected e) 6 fields ≡ cond out 3 0
      → filled (unselected e) 6 fields (call k 0 0) e ≡ e → led l ≡ true
      → reads starting (word_text w fields e ++ l) ≡ reads (ended true out e) l
  unfolding word_text
  reads-headed out l o q h =
      ap (reads starting) (append_assoc w (fields_text 6 fields e) l)
      ∙ reads_word starting w (fields_text 6 fields e ++ l) H.first.word (led-append (fields_text 6 fields e) l (led-fields 6 fields e) h)
      ∙ ap (λ (s : Reading). reads s (fields_text 6 fields e ++ l)) (take-first H.first ∙ H.begins)
      ∙ reads-fields 6 fields (call k 0 0) e l r H.good h
      ∙ ap (λ (s : Reading). reads s l) (λ i. at (Fields (o i)) 1 (q i))

  kept-headed : Kept 151 (word_text w fields e)
  unfolding word_text
  kept-headed = kept_append 25 126 w (fields_text 6 fields e) (kept-first H.first) (kept-fields 6 fields e r H.good)

-- ---- a call, and any event

module _ (e : Event) (r : Ranged e) where
  module _ (z : 0 < e.kind) (b : e.kind < kinds) where
    pub reads-call : Usual e → (l : List ℕ) → led l ≡ true → reads starting (call_text e ++ l) ≡ reads (ended true (left_out e.kind e) e) l
    reads-call u l =
        reads-headed (heads-kind e.kind z b) e r (left_out e.kind e) l (left_over_lem e e.kind b)
        (filled-chosen (unselected e) e refl e.kind b ∙ chosen-same e r u)

    pub kept-call : Kept 151 (call_text e)
    kept-call = kept-headed (heads-kind e.kind z b) e r

  pub reads-raw : (l : List ℕ) → led l ≡ true → reads starting (raw_text e ++ l) ≡ reads (ended true false e) l
  unfolding stops left_over
  reads-raw l = reads-headed heads-raw e r false l refl (raw_same e r)

  pub kept-raw : Kept 151 (raw_text e)
  kept-raw = kept-headed heads-raw e r
