-- Laws of texts: a bad line is the last one that counts, and a good text has as many records as events.
-- Assumes nothing.
use Rattle.std.proofs.Common.{◌≡◌, ℕ, suc, ◌+◌, ◌*◌, ◌≤◌, ◌<◌, ◌++◌, get_or, take, drop, drop-cons, append-nil, Bool, true, false, cond, ltb, List, [], ◌∷◌, length, refl, sym, ap, ◌∙◌, arith, length-append, ltb-false}
use Rattle.std.specs.Borrow.{Bor}
use Rattle.std.proofs.lemmas.List.{take-append-drop}
use Rattle.std.specs.Prelude.{Option, Some, None, is_some, Result, Ok, Err}
use Rattle.buffers.specs.Pieces.{put}
use Rattle.buffers.proofs.Put.{put-put}
use Rattle.scan.specs.Parts.{over}
use Rattle.scan.proofs.Parts.{over-append, over-kept}
use Rattle.textin.specs.declared.Line.{Line}
use Rattle.textin.specs.declared.Text.{Text}
use Rattle.textin.specs.declared.Wanted.{Wanted}
use Rattle.textin.specs.declared.Wanted.TheVariants.{FewEvents, ShortLine}
use Rattle.textin.specs.Readings.{line_of}
use Rattle.textin.specs.Texts.{lines_of, among, fitting, added, add_line, no_text, checked, records_of, add_records, records_in}
use Rattle.textin.proofs.Repeats.{repeated, length-repeated}
use Rattle.textin.proofs.Yields.{over_parts, over_parts-more}

-- ---- lines

-- where a line is not refused the events are not too many
module _ (count : ℕ) (m : Line) where
  few : (t : Bool) (n : Line) → ltb 2031585 (count + n.times) ≡ t → ◌≡◌ {A = Result Line Wanted} (cond t (Err FewEvents) (Ok n)) (Ok m) → count + m.times ≤ 2031585
  few true n h e = cc
  few false n h e = let v : n ≡ m = cc in rw (← v) (ltb-false _ _ h)

  few-among : (l : Result Line Wanted) → among count l ≡ Ok m → count + m.times ≤ 2031585
  unfolding among
  few-among (Err x) e = cc
  few-among (Ok n) e = few (ltb 2031585 (count + n.times)) n refl e

  few-short : (t : Bool) (l : Result Line Wanted) → cond t (Err ShortLine) (among count l) ≡ Ok m → count + m.times ≤ 2031585
  few-short true l e = cc
  few-short false l e = few-among l e

  pub few-events : (size : ℕ) (l : Result Line Wanted) → fitting count size l ≡ Ok m → count + m.times ≤ 2031585
  unfolding fitting
  few-events size l e = few-short (ltb 65535 size) l e

-- behind a bad line nothing counts
pub bad-line : (t : Text) (l : List ℕ) → is_some t.wanted ≡ true → add_line t l ≡ t
unfolding add_line
bad-line t l h = rw h

pub bad-lines : (t : Text) (ls : List (List ℕ)) → is_some t.wanted ≡ true → over add_line t ls ≡ t
bad-lines t ls h = over-kept (λ (u : Text). u ≡ t) add_line (λ u l e. rw e (bad-line t l h)) t ls refl

-- so a good text was good all along
pub good-lines : (t : Text) (ls : List (List ℕ)) → (over add_line t ls).wanted ≡ None → t.wanted ≡ None
good-lines t ls k = by t.wanted refl
  where
    by : (x : Option Wanted) → t.wanted ≡ x → x ≡ None
    by None e = refl
    by (Some x) e = let same = bad-lines t ls (ap is_some e) in rw (same, e) at k

-- what is said of a line that is not refused is what it says
fitting-same : (count size : ℕ) (l : Result Line Wanted) (m : Line) → fitting count size l ≡ Ok m → l ≡ Ok m
unfolding fitting among
fitting-same count size (Err x) m e = short (ltb 65535 size) e
  where
    short : (t : Bool) → ◌≡◌ {A = Result Line Wanted} (cond t (Err ShortLine) (Err x)) (Ok m) → ◌≡◌ {A = Result Line Wanted} (Err x) (Ok m)
    short true e = cc
    short false e = e
fitting-same count size (Ok n) m e = two (ltb 65535 size) (ltb 2031585 (count + n.times)) e
  where
    two : (s t : Bool) → ◌≡◌ {A = Result Line Wanted} (cond s (Err ShortLine) (cond t (Err FewEvents) (Ok n))) (Ok m) → ◌≡◌ {A = Result Line Wanted} (Ok n) (Ok m)
    two true t e = cc
    two false true e = cc
    two false false e = e

-- how many events a line has
abbrev pub times_of : Result Line Wanted → ℕ
times_of (Ok m) = m.times
times_of (Err x) = 0

-- a good line adds its events
module _ (t : Text) (l : List ℕ) where
  added-count : (r : Result Line Wanted) → fitting t.count (length l) (line_of l) ≡ r → (added t r).wanted ≡ None → (added t r).count ≡ t.count + times_of (line_of l)
  unfolding added
  added-count (Ok m) e k = rw (fitting-same t.count (length l) (line_of l) m e)
  added-count (Err x) e k = cc

  pub good-line : (add_line t l).wanted ≡ None → (add_line t l).count ≡ t.count + times_of (line_of l)
  unfolding over add_line
  good-line k =
      let e : t.wanted ≡ None = good-lines t (l ∷ []) k in
      let n : is_some t.wanted ≡ false = ap is_some e in
      rw n (added-count (fitting t.count (length l) (line_of l)) refl (rw n at k))

-- ---- records

length-records : (r : Result Line Wanted) → length (records_of r) ≡ 16 * times_of r
unfolding records_of
length-records (Ok m) = length-repeated m.times m.event
length-records (Err x) = refl

pub length-added : (h l : List ℕ) → length (add_records h l) ≡ length h + 16 * times_of (line_of l)
unfolding add_records
length-added h l = simp (length-append, length-records)

-- lines add records and take none away
pub longer : (h : List ℕ) (ls : List (List ℕ)) → length h ≤ length (over add_records h ls)
longer h ls = over-kept (λ (g : List ℕ). length h ≤ length g) add_records (λ g l k. omega (arith, k, length-added g l)) h ls (omega arith)

-- the records of one line more, behind those at the start of an output
pub added-put : (d h l : List ℕ) (at : ℕ) (m : Line) → line_of l ≡ Ok m → at ≡ length h → at + 16 * m.times ≤ length d
    → put (put d 0 h) at (repeated m.times m.event) ≡ put d 0 (add_records h l)
unfolding add_records records_of
added-put d h l at m s e b = rw s (put-put d 0 h (repeated m.times m.event) at (omega arith) (omega (arith, length-repeated m.times m.event)))

-- a bad line has none
pub added-bad : (h l : List ℕ) (x : Wanted) → line_of l ≡ Err x → add_records h l ≡ h
unfolding add_records records_of
added-bad h l x e = rw e (append-nil h)

-- there is room for those of the line behind some lines of a text
pub room_for : (front all : List (List ℕ)) (n : ℕ) (l : List ℕ) (m : Line) → line_of l ≡ Ok m → n < length all → front ≡ take n all → l ≡ get_or all n l
    → length (over add_records [] front) + 16 * m.times ≤ length (over add_records [] all)
unfolding over
room_for front all n l m s b f e =
    let cut : all ≡ front ++ (l ∷ drop (suc n) all) = sym (take-append-drop n all) ∙ rw (f, drop-cons all n l b, ← e) refl in
    let whole : over add_records [] all ≡ over add_records (add_records (over add_records [] front) l) (drop (suc n) all) =
    ap (over add_records []) cut ∙ over-append add_records [] front (l ∷ drop (suc n) all) in
    rw whole (omega (arith, longer (add_records (over add_records [] front) l) (drop (suc n) all), rw s at (length-added (over add_records [] front) l)))

-- the records of the lines so far, and with a line more
abbrev pub so_far : List (Bor (List ℕ)) → List ℕ
so_far = over_parts add_records []

pub so-far-more : (ls : List (Bor (List ℕ))) (x : Bor (List ℕ)) → so_far (ls ++ (x ∷ [])) ≡ add_records (so_far ls) x.now
so-far-more = over_parts-more add_records []

-- a good text has the records of as many events as were counted
pub counted : (t : Text) (h : List ℕ) (ls : List (List ℕ)) → length h ≡ 16 * t.count → (over add_line t ls).wanted ≡ None
    → length (over add_records h ls) ≡ 16 * (over add_line t ls).count
unfolding over
counted t h [] e k = e
counted t h (l ∷ ls) e k =
    counted (add_line t l) (add_records h l) ls (omega (arith, length-added h l, good-line t l (good-lines (add_line t l) ls k))) k

pub records-counted : (text : List ℕ) → (checked text).wanted ≡ None → length (records_in text) ≡ 16 * (checked text).count
unfolding checked records_in
records-counted text = counted no_text [] (lines_of text) refl
