-- `account::emptied` meets its contract.
-- Assumes nothing.
use mathlib.Core.Path.{◌≡◌, refl, ap, ◌∙◌}
use native.Mathlib.Omega.{arith}
use Rattle.words.specs.Table.{tab}
use Rattle.words.proofs.Tables.{filled_on, filled-all}
use Rattle.board.specs.Inputs.{channel_in}
use Rattle.account.specs.Code.{emptied, all_emptied}
use Rattle.account.proofs.Filled.{filled-here}
use Rattle.account.proofs.emptied.Goals as goal

pub loop-i-init : goal.loop-i-init
unfolding tab
loop-i-init c = refl

pub loop-i-preserved : goal.loop-i-preserved
loop-i-preserved c =
    let l = c.loop-i in
    let cs = c.args.cs in
    let here : channel_in l.cs l.i ≡ channel_in cs l.i = filled-here l.i _ cs l.cs _ l.invariant in
    filled_on l.i (λ c. emptied (channel_in cs c)) cs l.cs _ (omega (arith, c.well_formed.0.1)) l.invariant (ap emptied here)

pub returns : goal.returns
unfolding all_emptied
returns c =
    let l = c.loop-i in
    let cs = c.args.cs in
    let end : l.i ≡ 6 = omega arith in
    l.invariant ∙ rw end (filled-all 6 (λ c. emptied (channel_in cs c)) cs (omega (arith, c.well_formed.0.1)))
