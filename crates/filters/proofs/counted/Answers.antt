-- `filters::counted` meets its contract. The invariant: the first j planes are made, and the carry is that into plane j.
-- Assumes nothing.
use mathlib.Core.Path.{◌≡◌, refl, ◌∙◌}
use Prim.Native.Nat.{◌<◌}
use native.Mathlib.Numerals.{add-one}
use native.Mathlib.Omega.{arith}
use Rattle.words.specs.Bits.{bit}
use Rattle.words.specs.Table.{tab}
use Rattle.words.proofs.BitLaws.{word-ext, bit_word}
use Rattle.words.proofs.Tables.{filled_on, filled-all}
use Rattle.filters.specs.Planes.{number_at, plane_of, planes}
use Rattle.filters.proofs.Numbers.{carried, counted-bit}
use Rattle.filters.proofs.PlaneLaws.{bit-number}
use Rattle.filters.proofs.counted.Invariants.{numbers}
use Rattle.filters.proofs.counted.Goals as goal

pub loop-j-init : goal.loop-j-init
unfolding carried tab
loop-j-init c = (omega arith, c.cut-carry.ensures, refl)

pub loop-j-preserved : goal.loop-j-preserved
unfolding carried
loop-j-preserved c =
    let l = c.loop-j in
    let a = c.args in
    let here : l.j < 16 = omega arith in
    let made : c.both.result ≡ plane_of (numbers a.on a.x) l.j =
    rw (c.both.ensures, c.differ.ensures, l.invariant.1)
    (word-ext 48 _ _ (λ p h. simp (bit_word, ← bit-number) (counted-bit (bit a.on p) (number_at a.x p) l.j))) in (
      omega arith,
      rw (c.both-carry.ensures, l.invariant.1, add-one l.j) (word-ext 48 _ _ (λ p h. simp (bit_word, bit-number))),
      filled_on l.j (plane_of (numbers a.on a.x)) a.x l.r _ (omega (arith, c.well_formed.0.1)) l.invariant.2 made,
    )

pub returns : goal.returns
unfolding planes
returns c =
    let a = c.args in
    let e : c.loop-j.j ≡ 16 = omega arith in
    c.loop-j.invariant.2 ∙ rw e (filled-all 16 (plane_of (numbers a.on a.x)) a.x (omega (arith, c.well_formed.0.1)))
