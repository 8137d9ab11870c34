-- The inputs that words name.
-- Assumes nothing.
use Rattle.std.proofs.Common.{◌≡◌, ℕ, ◌<◌, ◌*◌, ◌+◌, Bool, true, false, cond, eqb, ltb, ◌&&◌, List, get_or, drop, arith, ltb-true, refl}
use mathlib.Core.Bool.{and-eq-true_iff}
use Rattle.std.specs.Prelude.{Option, Some, None}
use Rattle.std.specs.Option.{option_map_or, option_and_then}
use Rattle.scan.specs.Numbers.{figure}
use Rattle.kinds.specs.declared.Input.{Input}
use Rattle.kinds.specs.declared.Input.TheVariants.{Line, Pin}
use Rattle.kinds.specs.Names.{letter, input_at, input_of}
use Rattle.kinds.proofs.Names.{letter-below}
use Rattle.textin.specs.Readings.{place_of}

module _ (b n : ℕ) (u : Input) where
  lettered : (x : Option ℕ) → letter b ≡ x → (s t : Bool) → ltb n 6 ≡ s → (eqb b 112 && ltb n 48) ≡ t
      → option_map_or (λ k. cond s (Some (Line (3 * n + k))) None) x (cond t (Some (Pin n)) None) ≡ Some u → place_of u < 48
  lettered None q s true p r e =
      let v : Pin n ≡ u = cc in
      let m = ltb-true n 48 ((and-eq-true_iff (eqb b 112) (ltb n 48)).0 r).1 in
      rw (← v) m
  lettered None q s false p r e = cc
  lettered (Some k) q true t p r e =
      let v : Line (3 * n + k) ≡ u = cc in
      let m = ltb-true n 6 p in
      let h = letter-below b k q in
      rw (← v) (omega arith)
  lettered (Some k) q false t p r e = cc

  at-below : input_at b n ≡ Some u → place_of u < 48
  unfolding input_at
  at-below e = lettered (letter b) refl (ltb n 6) (eqb b 112 && ltb n 48) refl refl e

of-figure : (b : ℕ) (x : Option ℕ) (u : Input) → option_and_then (input_at b) x ≡ Some u → place_of u < 48
of-figure b None u e = cc
of-figure b (Some n) u e = at-below b n u e

-- the place of an input is a bit of W, which has 48
pub input-below : (w : List ℕ) (u : Input) → input_of w ≡ Some u → place_of u < 48
unfolding input_of
input-below w u e = of-figure (get_or w 0 0) (figure 10 (drop 1 w)) u e
