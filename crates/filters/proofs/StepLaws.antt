-- Laws of a step of the filters: which pins wait on, and what that makes of all of them.
-- Assumes nothing.
use mathlib.Core.Path.{◌≡◌, refl, ap, sym, ◌∙◌}
use mathlib.Core.Bool.{Bool, true, false, cond, not, ◌&&◌, beq, and-false}
use mathlib.Core.List.{List}
use Prim.Native.Nat.{ℕ, ◌+◌, ◌^◌, ◌<◌, ◌≤◌}
use native.Mathlib.Omega.{arith}
use lib.Dec.{eqb, ltb}
use lib.ListN.{replicate}
use borrow.Author.Tests.{lt-ltb, le-ltb, ltb-true, ltb-false}
use Rattle.words.specs.Bits.{bit, word}
use Rattle.words.proofs.BitLaws.{bit_word, bit-none, word-ext}
use Rattle.filters.specs.Planes.{number_at, planes, put_number}
use Rattle.filters.specs.Filters.{Filtering, followed, filtering_at, followed_at, filtered, put_filter, reset_filters}
use Rattle.filters.specs.declared.Filters.{Filters}
use Rattle.filters.specs.declared.Filtered.{Filtered}
use Rattle.filters.proofs.PlaneLaws.{planes-ext, number-planes, number_lt, zeros, number-zero}

-- ---- one pin

-- it waits on where the levels differ and the wait is below the filter
abbrev pub waits_on : Bool → Filtering → Bool
waits_on raw q = not (beq raw q.level) && ltb q.wait q.filter

-- and then keeps its level; else it takes the raw level, which may be its own
abbrev next : Bool → Bool → Filtering → Filtering
next on raw q = record { level = cond on q.level raw; filter = q.filter; wait = cond on (q.wait + 1) 0 }

enough : (f w : ℕ) → ltb f (w + 1) ≡ not (ltb w f)
enough f w = go (ltb w f) refl
  where
    go : (t : Bool) → ltb w f ≡ t → ltb f (w + 1) ≡ not t
    go true e = let h : w < f = ltb-true w f e in le-ltb f (w + 1) (omega arith)
    go false e = let h : f ≤ w = ltb-false w f e in lt-ltb f (w + 1) (omega arith)

pub followed-next : (raw : Bool) (q : Filtering) → followed raw q ≡ next (waits_on raw q) raw q
unfolding followed
followed-next raw q = go raw q.level (ltb q.wait q.filter) _ (enough q.filter q.wait)
  where
    go : (raw level t u : Bool) → u ≡ not t
        → cond (beq raw level) (record { level = level; filter = q.filter; wait = 0 })
        (cond u (record { level = raw; filter = q.filter; wait = 0 }) (record { level = level; filter = q.filter; wait = q.wait + 1 }))
        ≡ next (not (beq raw level) && t) raw (record { level = level; filter = q.filter; wait = q.wait })
    go true true t u e = refl
    go true false true u e = rw e
    go true false false u e = rw e
    go false true true u e = rw e
    go false true false u e = rw e
    go false false t u e = refl

-- without a filter it waits for nothing
pub waits-filtered : (d : Bool) (w f : ℕ) → (d && ltb w f) ≡ (d && ltb 0 f && ltb w f)
waits-filtered false w f = refl
waits-filtered true w f = go (ltb w f) refl
  where
    go : (t : Bool) → ltb w f ≡ t → t ≡ (ltb 0 f && t)
    go true e = let h : w < f = ltb-true w f e in rw (lt-ltb 0 f (omega arith))
    go false e = sym (and-false (ltb 0 f))

-- ---- all pins

-- the bits that two words have
pub both_at : {a b m : ℕ} (f g : ℕ → Bool) → a ≡ word 48 f → b ≡ word 48 g → m ≡ word 48 (λ p. bit a p && bit b p) → (p : ℕ) → p < 48 → bit m p ≡ (f p && g p)
both_at f g i j e p h = rw (e, i, j) (simp bit_word)

module _ (x : Filters) (raw level : ℕ) where
  -- from the word of the pins that wait on
  pub filtered-by : (on : ℕ) (wait : List ℕ) (l : ℕ) → ((p : ℕ) → p < 48 → bit on p ≡ waits_on (bit raw p) (filtering_at x level p))
      → wait ≡ planes (λ p. cond (bit on p) (number_at x.wait p + 1) 0) → l ≡ word 48 (λ p. cond (bit on p) (bit level p) (bit raw p))
      → ◌≡◌ {A = Filtered} (record { filters = record { filter = x.filter; wait = wait }; level = l }) (filtered raw level x)
  unfolding filtered filtering_at
  filtered-by on wait l h e k =
      let s : (p : ℕ) → p < 48 → followed_at x raw level p ≡ next (bit on p) (bit raw p) (filtering_at x level p)
      = λ p i. followed-next (bit raw p) (filtering_at x level p) ∙ ap (λ t. next t (bit raw p) (filtering_at x level p)) (sym (h p i)) in
      let a : wait ≡ planes (λ p. (followed_at x raw level p).wait) = e ∙ planes-ext _ _ (λ p i. ap (λ (q : Filtering). q.wait) (sym (s p i))) in
      let b : l ≡ word 48 (λ p. (followed_at x raw level p).level) = k ∙ word-ext 48 _ _ (λ p i. ap (λ (q : Filtering). q.level) (sym (s p i))) in
      λ i. record { filters = record { filter = x.filter; wait = a i }; level = b i }

  -- no pin with a filter differs, so none waits
  pub filtered-quiet : ((p : ℕ) → p < 48 → (not (beq (bit raw p) (bit level p)) && ltb 0 (number_at x.filter p)) ≡ false)
      → ◌≡◌ {A = Filtered} (record { filters = record { filter = x.filter; wait = planes (λ p. 0) }; level = word 48 (bit raw) }) (filtered raw level x)
  unfolding filtering_at
  filtered-quiet h =
      let f = number_at x.filter in
      let w = number_at x.wait in
      filtered-by 0 _ _
      (λ p i. bit-none p ∙ sym (waits-filtered (not (beq (bit raw p) (bit level p))) (w p) (f p) ∙ ap (λ t. t && ltb (w p) (f p)) (h p i)))
      (planes-ext _ _ (λ p i. ap (λ t. cond t (number_at x.wait p + 1) 0) (sym (bit-none p))))
      (word-ext 48 _ _ (λ p i. ap (λ t. cond t (bit level p) (bit raw p)) (sym (bit-none p))))

  -- a wait goes on below a filter of 16 bits
  small : (d t : Bool) (f w : ℕ) → f < 2 ^ 16 → ltb w f ≡ t → cond (d && t) (w + 1) 0 < 2 ^ 16
  small true true f w h e = let k : w < f = ltb-true w f e in omega arith
  small true false f w h e = omega arith
  small false t f w h e = omega arith

  -- so a step of all pins is a step of each
  pub filtered-at : (p : ℕ) → p < 48 → filtering_at (filtered raw level x).filters (filtered raw level x).level p ≡ followed_at x raw level p
  unfolding filtered filtering_at
  filtered-at p h =
      let e = followed-next (bit raw p) (filtering_at x level p) in
      let b : (followed_at x raw level p).wait < 2 ^ 16
      = rw e (small (not (beq (bit raw p) (bit level p))) _ (number_at x.filter p) (number_at x.wait p) (number_lt _ p) refl) in
      let f : number_at x.filter p ≡ (followed_at x raw level p).filter = ap (λ (q : Filtering). q.filter) (sym e) in
      λ i. record {
        level = bit_word 48 (λ p. (followed_at x raw level p).level) p h i;
        filter = f i;
        wait = number-planes (λ p. (followed_at x raw level p).wait) p h b i;
      }

-- ---- where every filter and every wait is 0

pub no-filters : (raw level : ℕ) → filtered raw level reset_filters ≡ record { filters = reset_filters; level = word 48 (bit raw) }
unfolding reset_filters
no-filters raw level =
    sym (filtered-quiet reset_filters raw level
    (λ p h. ap (λ n. not (beq (bit raw p) (bit level p)) && ltb 0 n) (number-zero p h) ∙ and-false (not (beq (bit raw p) (bit level p)))))
    ∙ (λ i. record { filters = record { filter = replicate 16 0; wait = zeros i }; level = word 48 (bit raw) })

-- a filter of 0 leaves them so
pub put-none : (p : ℕ) → put_filter p 0 0 reset_filters ≡ reset_filters
unfolding put_filter reset_filters
put-none p =
    let none : put_number p 0 (replicate 16 0) ≡ replicate 16 0 = planes-ext _ (λ _. 0) (λ q h. chosen (eqb q p) (number-zero q h)) ∙ zeros in
    λ i. record { filter = none i; wait = none i }
  where
    chosen : (t : Bool) {n : ℕ} → n ≡ 0 → cond t 0 n ≡ 0
    chosen true e = refl
    chosen false e = e
