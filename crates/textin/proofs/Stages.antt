-- Laws of what a line says at each stage.
-- Assumes nothing.
use Rattle.std.proofs.Common.{◌≡◌, ◌⊎◌, ◌<◌, ◌+◌, arith, zero, suc, ℕ, true, false, List, refl, ap, inl, inr}
use borrow.Author.Tests.{eq-eqb, ne_eqb}
use Rattle.std.specs.Prelude.{Ok, Err}
use Rattle.textin.specs.declared.Stage.{Stage}
use Rattle.textin.specs.declared.Stage.TheVariants.{Start, Fields, Step, Inputs, Times, End, Bad}
use Rattle.textin.specs.declared.Reading.{Reading}
use Rattle.textin.specs.declared.Wanted.{Wanted}
use Rattle.textin.specs.Readings.{wanted_number, wanted_field, wanted_by, spoilt, whole, said_at, take_star, take_last, take_field, take_at, take_some}

-- what is wanted where digit f comes next has the number f + 1
pub field-number : (f : ℕ) → f < 8 → wanted_number (wanted_field f) ≡ f + 1
unfolding wanted_field
field-number zero h = refl
field-number (suc zero) h = refl
field-number (suc (suc zero)) h = refl
field-number (suc (suc (suc zero))) h = refl
field-number (suc (suc (suc (suc zero)))) h = refl
field-number (suc (suc (suc (suc (suc zero))))) h = refl
field-number (suc (suc (suc (suc (suc (suc zero)))))) h = refl
field-number (suc (suc (suc (suc (suc (suc (suc zero))))))) h = refl
field-number (suc (suc (suc (suc (suc (suc (suc (suc f)))))))) h = omega (arith, h)

-- where it may end it says the event
pub said-whole : (x : Stage) (s : Reading) → (x ≡ Start → ⊥) → whole x ≡ true → said_at x s ≡ Ok (record { times = s.times; event = s.event })
unfolding said_at whole
said-whole Start s n h = absurd (n refl)
said-whole (Fields left) s n h = rw h
said-whole Step s n h = refl
said-whole Inputs s n h = refl
said-whole Times s n h = cc
said-whole End s n h = refl
said-whole (Bad x) s n h = cc

-- elsewhere, but for its start, what is wanted
pub said-bad : (x : Stage) (s : Reading) → (x ≡ Start → ⊥) → whole x ≡ false → said_at x s ≡ Err (wanted_by x)
unfolding said_at whole wanted_by
said-bad Start s n h = absurd (n refl)
said-bad (Fields left) s n h = rw h
said-bad Step s n h = cc
said-bad Inputs s n h = cc
said-bad Times s n h = refl
said-bad End s n h = cc
said-bad (Bad x) s n h = refl

-- ---- where it may end

pub may-end : (x : Stage) → (x ≡ Step) ⊎ ((x ≡ Inputs) ⊎ (x ≡ End)) → true ≡ whole x
unfolding whole
may-end x (inl e) = rw e
may-end x (inr (inl e)) = rw e
may-end x (inr (inr e)) = rw e

pub may-not-end : (x : Stage) → (x ≡ Start) ⊎ ((x ≡ Times) ⊎ ((w : Wanted) × (x ≡ Bad w))) → false ≡ whole x
unfolding whole
may-not-end x (inl e) = rw e
may-not-end x (inr (inl e)) = rw e
may-not-end x (inr (inr (w, e))) = rw e

-- ---- a word at each stage

pub at_stage : (x : Stage) (s : Reading) (w : List ℕ) → s.stage ≡ x → take_some s w ≡ take_at x s w
unfolding take_some
at_stage x s w e = ap (λ (y : Stage). take_at y s w) e

module _ (left : ℕ) (s : Reading) (w : List ℕ) where
  pub at-none : left ≡ 0 → take_at (Fields left) s w ≡ take_star s w
  unfolding take_at
  at-none e = rw (eq-eqb left 0 e)

  pub at-last : left ≡ 3 → take_at (Fields left) s w ≡ take_last s w
  unfolding take_at
  at-last e = rw e

  pub at-some : (left ≡ 0 → ⊥) → (left ≡ 3 → ⊥) → take_at (Fields left) s w ≡ take_field left s w
  unfolding take_at
  at-some n m = rw (ne_eqb left 0 n, ne_eqb left 3 m)

-- behind the end, or a bad word
pub at-end : (s : Reading) (w : List ℕ) → (s.stage ≡ End) ⊎ ((x : Wanted) × (s.stage ≡ Bad x)) → take_some s w ≡ spoilt s
unfolding take_at
at-end s w (inl e) = at_stage End s w e
at-end s w (inr (x, e)) = at_stage (Bad x) s w e
