-- The table of divisors: the rule at every entry, and no tick before one that is low.
-- Assumes nothing.
use Rattle.std.proofs.Common.{◌≡◌, ℕ, ◌+◌, ◌-◌, ◌/◌, ◌%◌, ◌^◌, ◌<◌, ◌≤◌, true, false, ltb, List, get_or, sym, refl, ap, ◌∙◌, arith, ltb-true, ne_eqb}
use native.Mathlib.Nat.{zero-mod, dvd_of_mod-eq-zero, mod-mod_of_dvd}
use borrow.Author.Tests.{eqb-false}
use Rattle.words.specs.Table.{tab}
use Rattle.words.proofs.Tables.{tab-at}
use Rattle.control.specs.Clock.{tick}

-- the divisor of tick x, by the formula
abbrev divisor : ℕ → ℕ
divisor x = 500_000_000 / 10 ^ x

-- ---- the rule: a test of every entry, which is computed, gives the formula at each of them

module _ (x : ℕ) (h : x < 8) where
  pub divisor-at : (table : List ℕ) → tab 8 (λ i. get_or table i 0) ≡ tab 8 divisor → get_or table x 0 ≡ divisor x
  divisor-at table test = tab-at 8 (λ i. get_or table i 0) divisor test x h

  pub divisor-positive : 0 < divisor x
  unfolding tab
  divisor-positive = ltb-true 0 (divisor x) (tab-at 8 (λ i. ltb 0 (divisor i)) (λ i. true) refl x h)

-- ---- each divisor divides those before it, and the last one, 50, all others: a test of all pairs

module _ (i j : ℕ) (h : i + j < 8) where
  divides : divisor i % divisor (i + j) ≡ 0
  unfolding tab
  divides =
      tab-at (8 - i) (λ k. divisor i % divisor (i + k)) (λ k. 0)
      (tab-at 8 (λ x. tab (8 - x) (λ k. divisor x % divisor (x + k))) (λ x. tab (8 - x) (λ k. 0)) refl i (omega arith))
      j (omega arith)

  -- so a tick is low with one behind it
  low-with : (p : ℕ) → tick p (i + j) ≡ false → tick p i ≡ false
  low-with p low =
      let d : ℕ = divisor (i + j) in
      ne_eqb (p % divisor i) 0
      (λ e. eqb-false (p % d) 0 low (sym (mod-mod_of_dvd d p (dvd_of_mod-eq-zero d divides)) ∙ ap (λ m. m % d) e ∙ zero-mod d))

pub low-before : (p i x : ℕ) → i ≤ x → x < 8 → tick p x ≡ false → tick p i ≡ false
low-before p i x s h low =
    let e : i + (x - i) ≡ x = omega arith in
    low-with i (x - i) (omega arith) p (ap (tick p) e ∙ low)
