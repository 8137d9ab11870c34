-- `account::after_held` meets its contract.
-- Assumes nothing.
use mathlib.Core.Path.{◌≡◌, refl, ◌∙◌}
use native.Mathlib.Omega.{arith}
use Rattle.words.specs.Table.{tab}
use Rattle.words.proofs.Tables.{filled_on, filled-all}
use Rattle.account.specs.Accounts.{account_in}
use Rattle.account.specs.Code.{after_held}
use Rattle.account.proofs.after_held.Invariants.{own}
use Rattle.account.proofs.Filled.{filled-here}
use Rattle.account.proofs.after_held.Goals as goal

pub loop-i-init : goal.loop-i-init
unfolding tab
loop-i-init c = refl

pub loop-i-preserved : goal.loop-i-preserved
loop-i-preserved c =
    let l = c.loop-i in
    let xs = c.args.accounts in
    let cs = c.args.cs in
    let here : account_in l.accounts l.i ≡ account_in xs l.i = filled-here l.i _ xs l.accounts _ l.invariant in
    let made : c.more.result ≡ own cs xs l.i = rw (c.more.ensures, here, c.from.ensures) in
    filled_on l.i (own cs xs) xs l.accounts _ (omega (arith, c.well_formed.0.1)) l.invariant made

pub returns : goal.returns
unfolding after_held
returns c =
    let l = c.loop-i in
    let xs = c.args.accounts in
    let cs = c.args.cs in
    let end : l.i ≡ 6 = omega arith in
    l.invariant ∙ rw end (filled-all 6 (own cs xs) xs (omega (arith, c.well_formed.0.1)))
