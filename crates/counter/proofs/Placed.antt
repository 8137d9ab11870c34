-- A list with x at a place, element by element.
-- Assumes nothing.
use Rattle.std.proofs.Common.{◌≡◌, ℕ, zero, suc, cond, eqb, List, [], ◌∷◌, length, get_or, set, refl, ap}
use lib.Dec.{eqb-zero-suc, eqb-suc-zero, eqb-suc-suc}
use Rattle.words.specs.Table.{tab}
use Rattle.words.proofs.Tables.{tab-same}

pub put_is : (a : List ℕ) (at x : ℕ) → tab (length a) (λ i. cond (eqb i at) x (get_or a i 0)) ≡ set a at x
unfolding tab
put_is [] at x = refl
put_is (y ∷ a) zero x = simp eqb-suc-zero (ap (λ l. x ∷ l) (tab-same (length a) _ a 0 refl (λ i h. refl)))
put_is (y ∷ a) (suc at) x = simp (eqb-zero-suc, eqb-suc-suc) (ap (λ l. y ∷ l) (put_is a at x))
