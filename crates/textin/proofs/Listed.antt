-- What a line wants is one of the fifteen that docs/TEXT.md numbers: `Other` is told of no text but one that was handed in with it.
-- Assumes nothing.
use Rattle.std.proofs.Common.{◌≡◌, ◌≤◌, ◌+◌, ◌*◌, ◌/◌, ◌%◌, ◌^◌, ℕ, Bool, true, false, cond, not, ◌&&◌, List, [], length, refl, ap, ◌∙◌, arith}
use Rattle.std.specs.Prelude.{Option, Some, None, is_some, Result, Ok, Err, ◌==◌, nat_lt}
use Rattle.std.specs.Option.{option_map_or}
use Rattle.words.proofs.Cases.{either}
use Rattle.kinds.specs.declared.Named.{Named}
use Rattle.kinds.specs.declared.Named.TheVariants.{Kind, Raw}
use Rattle.kinds.specs.Names.{kind_of, input_of}
use Rattle.scan.specs.Bytes.{ascii, same}
use Rattle.scan.specs.Numbers.{number}
use Rattle.scan.specs.Parts.{parts, between, before, over}
use Rattle.scan.proofs.Parts.{over-kept}
use Rattle.scan.specs.declared.Between.TheVariants.{Words}
use Rattle.textin.specs.declared.Reading.{Reading}
use Rattle.textin.specs.declared.Line.{Line}
use Rattle.textin.specs.declared.Text.{Text}
use Rattle.textin.specs.declared.Refusal.{Refusal}
use Rattle.textin.specs.declared.Refusal.TheVariants.{BadLine, NoRoom}
use Rattle.textin.specs.declared.Stage.{Stage}
use Rattle.textin.specs.declared.Stage.TheVariants.{Start, Fields, Step, Inputs, Times, End, Bad}
use Rattle.textin.specs.declared.Wanted.{Wanted}
use Rattle.textin.specs.declared.Wanted.TheVariants as want
use Rattle.textin.specs.Readings.{room, wanted_number, wanted_field, wanted_by, spoilt, starting, begun, take_kind, take_field, take_star, take_last, take_input, take_step, take_times, take_at, take_some, take_word, whole, said_at, finished, line_of}
use Rattle.textin.specs.Texts.{lines_of, among, fitting, added, add_line, no_text, checked, answered}

-- one of the fifteen, that is, no other
abbrev pub Listed : Wanted → Type 0
Listed x = (n : ℕ) → x ≡ want.Other n → ⊥

-- their numbers, 1 to 15
pub listed-number : (x : Wanted) → Listed x → (1 ≤ wanted_number x) × (wanted_number x ≤ 15)
listed-number want.FirstWord h = (omega arith, omega arith)
listed-number want.Kind h = (omega arith, omega arith)
listed-number want.Member h = (omega arith, omega arith)
listed-number want.Selector h = (omega arith, omega arith)
listed-number want.Spare h = (omega arith, omega arith)
listed-number want.V h = (omega arith, omega arith)
listed-number want.W h = (omega arith, omega arith)
listed-number want.Star h = (omega arith, omega arith)
listed-number want.InputOrV h = (omega arith, omega arith)
listed-number want.Input h = (omega arith, omega arith)
listed-number want.Times h = (omega arith, omega arith)
listed-number want.End h = (omega arith, omega arith)
listed-number want.ShortLine h = (omega arith, omega arith)
listed-number want.FewEvents h = (omega arith, omega arith)
listed-number want.LastSelector h = (omega arith, omega arith)
listed-number (want.Other n) h = absurd (h n refl)

-- ---- a line, word by word

-- what holds of what is made of each value, and of what stands for none, holds of the choice
mapped : {X Y : Type 0} (P : Y → Type 0) (f : X → Y) (o : Option X) {d : Y} → ((x : X) → P (f x)) → P d → P (option_map_or f o d)
mapped P f None p q = q
mapped P f (Some x) p q = p x

-- a line that is bad at this stage wants one of them; and one that was read so far
abbrev ListedAt : Stage → Type 0
ListedAt x = (n : ℕ) → x ≡ Bad (want.Other n) → ⊥

abbrev ListedIn : Reading → Type 0
ListedIn s = ListedAt s.stage

digit-listed : (f : ℕ) → Listed (wanted_field f)
unfolding wanted_field
digit-listed f =
    either Listed (f == 0) (λ n e. cc) (either Listed (f == 1) (λ n e. cc) (either Listed (f == 2) (λ n e. cc) (either Listed (f == 3) (λ n e. cc)
    (either Listed (f == 4) (λ n e. cc) (either Listed (f == 5) (λ n e. cc) (either Listed (f == 7) (λ n e. cc) (λ n e. cc)))))))

wanted-listed : (x : Stage) → ListedAt x → Listed (wanted_by x)
unfolding wanted_by
wanted-listed Start h = λ n e. cc
wanted-listed (Fields left) h = either Listed (left == 0) (λ n e. cc) (either Listed (left == 3) (λ n e. cc) (digit-listed (left % 8)))
wanted-listed Step h = λ n e. cc
wanted-listed Inputs h = λ n e. cc
wanted-listed Times h = λ n e. cc
wanted-listed End h = λ n e. cc
wanted-listed (Bad x) h = λ n e. h n (ap Bad e)

module _ (s : Reading) (h : ListedIn s) where
  spoilt-listed : ListedIn (spoilt s)
  unfolding spoilt
  spoilt-listed n e = wanted-listed s.stage h n cc

  begun-listed : (o : Option Named) → ListedIn (begun s o)
  unfolding begun
  begun-listed (Some (Kind k)) = either ListedIn (k == 0) (λ n e. cc) (λ n e. cc)
  begun-listed (Some Raw) = λ n e. cc
  begun-listed None = spoilt-listed

  star-listed : (w : List ℕ) → ListedIn (take_star s w)
  unfolding take_star
  star-listed w = either ListedIn (same w (ascii "*")) (λ n e. cc) spoilt-listed

  input-listed : (w : List ℕ) → ListedIn (take_input s w)
  unfolding take_input
  input-listed w = mapped ListedIn _ (input_of w) (λ u n e. cc) (star-listed w)

  times-listed : (w : List ℕ) → ListedIn (take_times s w)
  unfolding take_times
  times-listed w = mapped ListedIn _ (number w) (λ t. either ListedIn (not (t == 0) && nat_lt t (2 ^ 32)) (λ n e. cc) spoilt-listed) spoilt-listed

field-listed : (left : ℕ) (s : Reading) (w : List ℕ) → ListedIn (take_field left s w)
unfolding take_field
field-listed left s w =
    let bad = spoilt-listed (record { stage = Fields left; times = s.times; event = s.event }) (λ n e. cc) in
    mapped ListedIn _ (number w) (λ t. either ListedIn (nat_lt t (room (left % 8))) (λ n e. cc) bad) bad

module _ (s : Reading) (h : ListedIn s) (w : List ℕ) where
  last-listed : ListedIn (take_last s w)
  unfolding take_last
  last-listed = mapped ListedIn _ (number w) (λ t. field-listed 3 s w) (star-listed s h w)

  step-listed : ListedIn (take_step s w)
  unfolding take_step
  step-listed = mapped ListedIn _ (number w) (λ t. field-listed 0o65 s w) (input-listed s h w)

  at-listed : (x : Stage) → ListedIn (take_at x s w)
  unfolding take_at take_kind
  at-listed Start = begun-listed s h (kind_of w)
  at-listed (Fields left) = either ListedIn (left == 0) (star-listed s h w) (either ListedIn (left == 3) last-listed (field-listed left s w))
  at-listed Step = step-listed
  at-listed Inputs = input-listed s h w
  at-listed Times = times-listed s h w
  at-listed End = spoilt-listed s h
  at-listed (Bad x) = spoilt-listed s h

  word-listed : ListedIn (take_word s w)
  unfolding take_word take_some
  word-listed = either ListedIn (length w == 0) h (at-listed s.stage)

-- ---- what is told

-- of a line
abbrev ListedBy : Result Line Wanted → Type 0
ListedBy r = (n : ℕ) → r ≡ Err (want.Other n) → ⊥

said-listed : (x : Stage) (s : Reading) → ListedAt x → ListedBy (said_at x s)
unfolding said_at
said-listed Start s h = λ n e. cc
said-listed (Fields left) s h = either ListedBy (whole (Fields left)) (λ n e. cc) (λ n e. wanted-listed (Fields left) h n cc)
said-listed Step s h = λ n e. cc
said-listed Inputs s h = λ n e. cc
said-listed Times s h = λ n e. wanted-listed Times h n cc
said-listed End s h = λ n e. cc
said-listed (Bad x) s h = λ n e. h n cc

pub line-listed : (l : List ℕ) (n : ℕ) → line_of l ≡ Err (want.Other n) → ⊥
unfolding line_of finished
line-listed l =
    let words = parts (between Words) [] (before 35 l) in
    let s = over take_word starting words in
    said-listed s.stage s (over-kept ListedIn take_word (λ u w h. word-listed u h w) starting words (λ n e. cc))

-- of a text with a line more: another number is one that it had
module _ (count size : ℕ) where
  among-listed : (r : Result Line Wanted) → ListedBy r → ListedBy (among count r)
  unfolding among
  among-listed (Err x) h = h
  among-listed (Ok m) h = either ListedBy (nat_lt 2031585 (count + m.times)) (λ n e. cc) (λ n e. cc)

  fitting-listed : (r : Result Line Wanted) → ListedBy r → ListedBy (fitting count size r)
  unfolding fitting
  fitting-listed r h = either ListedBy (nat_lt 65535 size) (λ n e. cc) (among-listed r h)

module _ (t : Text) where
  added-listed : (r : Result Line Wanted) → ListedBy r → (n : ℕ) → (added t r).wanted ≡ Some (want.Other n) → ⊥
  unfolding added
  added-listed (Ok m) h n e = cc
  added-listed (Err x) h n e = h n cc

  pub text-listed : (l : List ℕ) (n : ℕ) → (add_line t l).wanted ≡ Some (want.Other n) → t.wanted ≡ Some (want.Other n)
  unfolding add_line
  text-listed l n =
      either (λ (u : Text). u.wanted ≡ Some (want.Other n) → t.wanted ≡ Some (want.Other n)) (is_some t.wanted) (λ e. e)
      (λ e. absurd (added-listed (fitting t.count (length l) (line_of l)) (fitting-listed t.count (length l) (line_of l) (line-listed l)) n e))

pub texts-listed : (t : Text) (ls : List (List ℕ)) (n : ℕ) → (over add_line t ls).wanted ≡ Some (want.Other n) → t.wanted ≡ Some (want.Other n)
texts-listed t ls n =
    over-kept (λ (u : Text). u.wanted ≡ Some (want.Other n) → t.wanted ≡ Some (want.Other n)) add_line (λ u l h e. h (text-listed u l n e)) t ls (λ e. e)

-- of a whole text
pub checked-listed : (text : List ℕ) (n : ℕ) → (checked text).wanted ≡ Some (want.Other n) → ⊥
unfolding checked
checked-listed text n e = none (texts-listed no_text (lines_of text) n e)
  where
    none : no_text.wanted ≡ Some (want.Other n) → ⊥
    none k = cc

module _ (t : Text) (size line n : ℕ) (h : t.wanted ≡ Some (want.Other n) → ⊥) where
  no-room : (few : Bool) → ◌≡◌ {A = Result ℕ Refusal} (cond few (Err NoRoom) (Ok (16 * t.count))) (Err (BadLine line (want.Other n))) → ⊥
  no-room true e = cc
  no-room false e = cc

  answered-by : (o : Option Wanted) → t.wanted ≡ o
      → ◌≡◌ {A = Result ℕ Refusal} (option_map_or (λ x. Err (BadLine t.lines x)) o (cond (nat_lt (size / 16) t.count) (Err NoRoom) (Ok (16 * t.count)))) (Err (BadLine line (want.Other n)))
      → ⊥
  answered-by None k e = no-room (nat_lt (size / 16) t.count) e
  answered-by (Some x) k e = h (k ∙ cc)

  answered-listed : answered t size ≡ Err (BadLine line (want.Other n)) → ⊥
  unfolding answered
  answered-listed e = answered-by t.wanted refl e

pub parsed-listed : (text : List ℕ) (size line n : ℕ) → answered (checked text) size ≡ Err (BadLine line (want.Other n)) → ⊥
parsed-listed text size line n = answered-listed (checked text) size line n (checked-listed text n)
