-- `scan::before` meets its contract.
-- Assumes nothing.
use mathlib.Core.Path.{◌≡◌, ◌∙◌}
use lib.Dec.{eqb}
use lib.ListN.{length, take}
use Rattle.std.proofs.Common.{rules}
use Rattle.std.proofs.lemmas.Iterator.{YieldsList-from_slice}
use Rattle.std.proofs.lemmas.Iterator.Search.{position_from_yields_List}
use borrow.Author.Tests.{tests}
use Rattle.std.specs.Prelude.{position}
use Rattle.scan.proofs.Parts.{place-found, before-found}
use Rattle.scan.proofs.before.Goals as goal

pub returns-clause-front : goal.returns-clause-front
returns-clause-front c =
    let text = c.args.text.now in
    let found : c.position.result ≡ position (λ b. eqb b c.args.m) text =
    position_from_yields_List (λ b. eqb b c.args.m) _ _ _ c.position.ensures.ran (YieldsList-from_slice text cc) (λ x b q k. search (rules, tests)) in
    rw (c.unwrap_or.ensures, found, place-found (λ b. eqb b c.args.m) text) (before-found c.args.m text)
