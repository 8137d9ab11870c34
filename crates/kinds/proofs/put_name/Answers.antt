-- `kinds::put_name` meets its contract.
-- Assumes nothing.
use Rattle.std.proofs.Common.{◌≡◌, ℕ, ◌<◌, List, refl, ap, arith, length}
use Rattle.std.specs.Borrow.{Bor}
use lib.ListN.{length-append}
use Rattle.words.specs.Table.{tab}
use Rattle.scan.specs.Bytes.{ascii}
use Rattle.kinds.specs.Names.{kinds, name, names}
use Rattle.kinds.proofs.Names.{name-length}
use Rattle.kinds.proofs.Table.{name-at}
use Rattle.kinds.proofs.put_name.Goals as goal

pub put_bytes-requires : goal.put_bytes-requires
unfolding names ascii tab
put_bytes-requires g c =
    let h : c.args.k < kinds = c.requires.kind in
    let e : c.as_bytes.result.now ≡ name c.args.k = rw c.as_bytes.ensures.value (rw (name-at (λ (x : Bor (List ℕ)). x.now)) refl) in
    let n = name-length c.args.k h in
    omega (arith, ap length e)

pub returns-clause-within : goal.returns-clause-within
unfolding names ascii tab
returns-clause-within g c =
    let h : c.args.k < kinds = c.requires.kind in
    let e : c.as_bytes.result.now ≡ name c.args.k = rw c.as_bytes.ensures.value (rw (name-at (λ (x : Bor (List ℕ)). x.now)) refl) in
    let n = name-length c.args.k h in
    omega (arith, ap length e, ap length c.put_bytes.ensures.wrote, length-append c.args.line.now.items c.as_bytes.result.now)

pub returns-clause-wrote : goal.returns-clause-wrote
unfolding names ascii tab
returns-clause-wrote g c =
    let h : c.args.k < kinds = c.requires.kind in
    let e : c.as_bytes.result.now ≡ name c.args.k = rw c.as_bytes.ensures.value (rw (name-at (λ (x : Bor (List ℕ)). x.now)) refl) in
    rw (← e) c.put_bytes.ensures.wrote
