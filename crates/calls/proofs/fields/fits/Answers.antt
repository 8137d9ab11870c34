-- `calls::fields::fits` meets its contract.
-- Assumes nothing.
use Rattle.std.proofs.Common.{◌≡◌, ◌≤◌, Bool, true, false, not, ◌&&◌, ◌||◌, refl, arith, rules}
use lib.Dec.{eqb, ltb}
use lib.ListN.{get_or-eq_default}
use borrow.Author.Tests.{le-ltb}
use Rattle.counter.specs.Mode.{good_mode}
use Rattle.calls.specs.Fields.{limits, limit, selectors, fits}
use Rattle.calls.specs.declared.Event.{Event}
use Rattle.calls.proofs.fields.fits.Goals as goal

past : (x r s : Bool) → false ≡ x && false && r && s
past false r s = refl
past true r s = refl

-- an unknown kind takes no V
unfit : (e : Event) → 31 ≤ e.kind → false ≡ fits e
unfolding fits limit limits
unfit e h =
    let none : ltb e.v (limit e.kind) ≡ false = le-ltb _ _ (rw (get_or-eq_default limits 0 h) (omega arith)) in
    rw none (past (eqb e.spare 0 && ltb e.selector (selectors e.kind) && eqb e.w 0) (not (eqb e.kind 1) || good_mode e.v) (not (eqb e.kind 25) || not (eqb e.v 0)))

pub returns-in_default : goal.returns-in_default
returns-in_default c = unfit c.args.e (search rules)
