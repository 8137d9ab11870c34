-- `text::put_hexadecimal` meets its contract.
-- Assumes nothing.
use mathlib.Core.Path.{sym}
use mathlib.Core.List.{append-nil, append_assoc}
use native.Mathlib.Omega.{arith}
use Rattle.text.proofs.Decimal.{hexadecimal-none, hexadecimal-more}
use Rattle.text.proofs.+put_hexadecimal.Goals as goal

pub returns-then-k-eq0-clause-wrote : goal.returns-then-k-eq0-clause-wrote
returns-then-k-eq0-clause-wrote g t c = rw (hexadecimal-none c.args.k c.args.v c.if-k-eq0.true) (sym (append-nil _))

pub returns-clause-wrote : goal.returns-clause-wrote
returns-clause-wrote g t c =
    let e = c.put_hexadecimal.ensures.wrote in
    simp (hexadecimal-more c.args.k c.args.v (omega arith), c.push.ensures.items, e, c.digit.ensures, append_assoc)
