-- The table of transitions and the clocks: the rule of the table at every entry, where it tells an error, and how large a difference is.
-- Assumes nothing.
use Rattle.std.proofs.Common.{◌≡◌, Option, Some, None, ◌<◌, ltb, ℕ, zero, suc, min, lt-ltb, ◌+◌, ◌-◌, ◌*◌, ◌/◌, ◌%◌, ◌≤◌, Bool, true, false, cond, not, ◌&&◌, eqb, List, get_or, ℤ, pos, negsuc, sym, refl, ◌∙◌, arith}
use lib.Signed.{mag}
use Rattle.std.specs.Int.{from_bool, int_signum}
use Rattle.words.specs.Table.{tab}
use Rattle.words.proofs.Cases.{either, taken, tested}
use Rattle.words.proofs.Tables.{tab-at}
use Rattle.counter.specs.Samples.{line_a}
use Rattle.counter.specs.Quadrature.{phase, quadrature, both_changed, transition, keeps}
use Rattle.counter.specs.Difference.{is_up, is_down, sign, unit, clocked, errs, turned}
use Rattle.std.specs.Option.{unwrap_or, is_some}
use mathlib.Core.Bool.{and-eq-true_iff}
use borrow.Author.Tests.{ltb-true, ne_eqb, not-true, not-false}

-- ---- what the library's conversion and sign are

pub unit_is : (b : Bool) → pos (from_bool b) ≡ unit b
unit_is true = refl
unit_is false = refl

pub sign_is : (d : ℤ) → int_signum d ≡ sign d
sign_is (pos zero) = refl
sign_is (pos (suc n)) = let one : min (suc n) 1 ≡ 1 = omega arith in rw (one, lt-ltb 0 (suc n) (omega arith))
sign_is (negsuc n) = refl

-- ---- a difference is −1, 0 or +1

record Small (z : ℤ) : Type 0 where
  small : mag z ≤ 1

up : Small (pos 1)
up = record { small = omega arith }

down : Small (negsuc 0)
down = record { small = omega arith }

none : Small (pos 0)
none = record { small = omega arith }

unit-small : (b : Bool) → Small (unit b)
unit-small b = either Small b up none

sign_small : (d : ℤ) → Small (sign d)
sign_small d = either Small (is_up d) up (either Small (is_down d) down none)

quadrature-small : (before now : ℕ) → Small (quadrature before now)
quadrature-small before now =
    let turns = (phase now + 4 - phase before) % 4 in
    either Small (eqb turns 1) up (either Small (eqb turns 3) down none)

pub clocked-small : (k before now : ℕ) (rises : Bool) (carried : ℤ) → mag (clocked k before now rises carried) ≤ 1
unfolding clocked
clocked-small k before now rises carried =
    (either Small (eqb k 0) (unit-small (not (line_a before) && line_a now))
    (either Small (eqb k 1) (unit-small (line_a before && not (line_a now)))
    (either Small (eqb k 2) (unit-small rises)
    (either Small (eqb k 3) up
    (either Small (eqb k 4) (sign_small carried)
    (either Small (keeps k before now) (quadrature-small before now) none)))))).small

-- ---- the place of a transition in the table

-- 4 times the earlier A + 2 B and the present one
abbrev place : ℕ → ℕ → ℕ
place before now = before % 4 * 4 + now % 4

-- line B of the two lowest bits
line-b : (n : ℕ) → n % 4 / 2 % 2 ≡ n / 2 % 2
line-b n =
    let h : n / 2 ≡ n % 4 / 2 + 2 * (n / 4) = omega arith in
    omega arith

-- what an error would count
abbrev counted : ℕ → ℕ → ℤ
counted before now = cond (both_changed before now) (quadrature before now) (pos 0)

module _ (before now : ℕ) where
  before_at : place before now / 4 ≡ before % 4
  before_at = omega arith

  now-at : place before now % 4 ≡ now % 4
  now-at = omega arith

  before-a : before % 4 % 2 ≡ before % 2
  before-a = omega arith

  now-a : now % 4 % 2 ≡ now % 2
  now-a = omega arith

  -- ---- the rule: a test of every entry, which is computed, gives the transition between two samples

  transition-at : transition (place before now / 4) (place before now % 4) ≡ transition before now
  unfolding transition
  transition-at = rw (before_at, now-at, before-a, now-a, line-b before, line-b now)

  pub looked-up :
      (table : List (Option ℤ)) →
      tab 16 (λ i. get_or table i None) ≡ tab 16 (λ i. transition (i / 4) (i % 4)) →
      get_or table (place before now) None ≡ transition before now
  looked-up table test = tab-at 16 (λ i. get_or table i None) (λ i. transition (i / 4) (i % 4)) test (place before now) (omega arith) ∙ transition-at

  -- ---- errors

  pub transition-small : (d : ℤ) → transition before now ≡ Some d → mag d ≤ 1
  unfolding transition
  transition-small d = sized (both_changed before now) (quadrature before now) (quadrature-small before now)
    where
      sized : (t : Bool) (q : ℤ) → Small q → cond t None (Some q) ≡ Some d → mag d ≤ 1
      sized true q s e = cc
      sized false q s e = let is : q ≡ d = cc in rw (← is) s.small

  -- the table tells an error just where both lines changed
  pub told : transition before now ≡ None → both_changed before now ≡ true
  unfolding transition
  told = only (both_changed before now) (quadrature before now)
    where
      only : (t : Bool) (q : ℤ) → cond t None (Some q) ≡ None → t ≡ true
      only true q e = refl
      only false q e = cc

  pub untold : (transition before now ≡ None → ⊥) → both_changed before now ≡ false
  unfolding transition
  untold = never (both_changed before now) (quadrature before now)
    where
      never : (t : Bool) (q : ℤ) → (cond t None (Some q) ≡ None → ⊥) → t ≡ false
      never true q h = absurd (h refl)
      never false q h = refl

  -- an error counts nothing, by a test of every place
  counted-at : counted (place before now / 4) (place before now % 4) ≡ counted before now
  counted-at = rw (before_at, now-at, before-a, now-a, line-b before, line-b now)

  pub nothing : both_changed before now ≡ true → quadrature before now ≡ pos 0
  unfolding tab
  nothing h =
      sym (taken (quadrature before now) (pos 0) h) ∙ sym counted-at
      ∙ tab-at 16 (λ i. counted (i / 4) (i % 4)) (λ i. pos 0) refl (place before now) (omega arith)

-- ---- what a clock gives

module _ (k before now : ℕ) (rises : Bool) (carried : ℤ) where
  -- a clock that sees errors is none of the first five, and counts nothing then
  erring : errs k before now ≡ true → clocked k before now rises carried ≡ pos 0
  unfolding errs clocked
  erring e =
      let both = (and-eq-true_iff (ltb 4 k) (both_changed before now)).0 e in
      let late : 4 < k = ltb-true 4 k both.0 in
      rw (ne_eqb k 0 (omega arith), ne_eqb k 1 (omega arith), ne_eqb k 2 (omega arith), ne_eqb k 3 (omega arith), ne_eqb k 4 (omega arith))
      (either (λ z. z ≡ pos 0) (keeps k before now) (nothing before now both.1) refl)

  pub turned-counts : unwrap_or (turned k before now rises carried) (pos 0) ≡ clocked k before now rises carried
  turned-counts =
      tested (λ o. unwrap_or o (pos 0) ≡ clocked k before now rises carried) (errs k before now) (λ e. sym (erring e)) (λ e. refl)

  -- a test for none tells the error
  pub turned-errs : (none : Bool) → is_some (turned k before now rises carried) ≡ not none → none ≡ errs k before now
  turned-errs none =
      tested (λ o. is_some o ≡ not none → none ≡ errs k before now) (errs k before now) (λ e h. not-false none (sym h) ∙ sym e) (λ e h. not-true none (sym h) ∙ sym e)
