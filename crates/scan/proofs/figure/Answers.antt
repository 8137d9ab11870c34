-- `scan::figure` meets its contract.
-- Assumes nothing.
use mathlib.Core.Path.{◌≡◌, sym, ◌∙◌}
use native.Mathlib.Omega.{arith}
use borrow.Author.Tests.{eqb-false}
use Rattle.std.proofs.Common.{rules}
use Rattle.std.proofs.lemmas.Iterator.{YieldsList-from_slice}
use Rattle.std.proofs.lemmas.Iterator.Consumers.{fold_from_yields_List}
use Rattle.std.specs.Prelude.{Some, fold}
use Rattle.scan.specs.Numbers.{extended}
use Rattle.scan.proofs.Parts.{over-fold}
use Rattle.scan.proofs.Numbers.{figure-none, figure-some}
use Rattle.scan.proofs.figure.Goals as goal

pub returns-then-is_empty : goal.returns-then-is_empty
returns-then-is_empty c = sym (figure-none _ _ (search rules))

pub returns : goal.returns
returns c =
    let a = c.args in
    let e : c.fold.result ≡ fold (extended a.base) (Some 0) a.digits.now =
    fold_from_yields_List _ (extended a.base) (Some 0) _ c.fold.ensures.ran (YieldsList-from_slice a.digits.now cc) (λ a x b q k. search rules) in
    e ∙ sym (figure-some a.base a.digits.now (omega (arith, eqb-false _ 0 (sym c.if-is_empty.ensures))) ∙ over-fold (extended a.base) (Some 0) a.digits.now)
