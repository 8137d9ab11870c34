-- `kinds::by_name` meets its contract.
-- Assumes nothing.
use Rattle.std.proofs.Common.{◌≡◌, ℕ, List, refl, ◌∙◌, rules, tests}
use Rattle.std.specs.Prelude.{position, bytes_eq}
use Rattle.std.specs.Borrow.{Bor}
use Rattle.std.proofs.lemmas.Iterator.{YieldsList-from_slice}
use Rattle.std.proofs.lemmas.Iterator.Search.{position_from_yields_List}
use Rattle.words.specs.Table.{tab}
use Rattle.scan.specs.Bytes.{ascii}
use Rattle.kinds.specs.Names.{names}
use Rattle.kinds.proofs.Table.{found_kind}
use Rattle.kinds.proofs.by_name.Goals as goal

pub returns-in_err-k : goal.returns-in_err-k
unfolding names ascii tab
returns-in_err-k c =
    let found : c.position.result ≡ position (λ (x : Bor (List ℕ)). bytes_eq c.args.w.now x.now) c.iter.result.rest.now =
    position_from_yields_List (λ x. bytes_eq c.args.w.now x.now) _ _ _ c.position.ensures.ran (YieldsList-from_slice _ refl) (λ x b q k. search (rules, tests)) in
    let kind = found_kind (λ (x : Bor (List ℕ)). x.now) c.iter.result.rest.now (rw c.iter.ensures.rest refl) c.args.w.now in
    c.from_residual.ensures ∙ rw (← found, c.in_err-k.was) at kind

pub returns : goal.returns
unfolding names ascii tab
returns c =
    let found : c.position.result ≡ position (λ (x : Bor (List ℕ)). bytes_eq c.args.w.now x.now) c.iter.result.rest.now =
    position_from_yields_List (λ x. bytes_eq c.args.w.now x.now) _ _ _ c.position.ensures.ran (YieldsList-from_slice _ refl) (λ x b q k. search (rules, tests)) in
    let kind = found_kind (λ (x : Bor (List ℕ)). x.now) c.iter.result.rest.now (rw c.iter.ensures.rest refl) c.args.w.now in
    rw (← found, c.in_ok-k.was) at kind
