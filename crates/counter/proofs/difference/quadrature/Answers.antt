-- `counter::difference::quadrature` meets its contract.
-- Assumes nothing.
use Rattle.std.proofs.Common.{◌≡◌, Bool, true, false, cond, Some, None, ℤ, pos, sym, refl, ◌∙◌, rules}
use Rattle.counter.specs.Quadrature.{quadrature, both_changed, transition, keeps}
use Rattle.counter.proofs.Signed.{back}
use Rattle.counter.proofs.difference.quadrature.Goals as goal

none-of : (t : Bool) (q r : ℤ) → cond t None (Some q) ≡ None → None ≡ cond t None (Some r)
none-of true q r e = refl
none-of false q r e = cc

some-of : (t s : Bool) (q d : ℤ) → cond t None (Some q) ≡ Some d → Some (cond s d (pos 0)) ≡ cond t None (Some (cond s q (pos 0)))
some-of true s q d e = cc
some-of false s q d e = cc

pub returns-in_err-d : goal.returns-in_err-d
unfolding transition
returns-in_err-d c =
    let none : c.transition.result ≡ None = search rules in
    let given : c.from_residual.result ≡ None = search rules in
    given ∙ none-of (both_changed c.args.before c.args.now) (quadrature c.args.before c.args.now) _ (sym c.transition.ensures ∙ none)

pub returns : goal.returns
unfolding transition
returns c =
    let some : c.transition.result ≡ Some c.in_ok-d.d = search rules in
    rw (back c.gate.result c.gate.type_inv, c.gate.ensures, back c.in_ok-d.d (search rules), c.keeps.ensures)
    (some-of (both_changed c.args.before c.args.now) (keeps c.args.k c.args.before c.args.now) (quadrature c.args.before c.args.now) _ (sym c.transition.ensures ∙ some))
