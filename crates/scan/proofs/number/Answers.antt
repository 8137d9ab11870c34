-- `scan::number` meets its contract.
-- Assumes nothing.
use mathlib.Core.Path.{◌≡◌, sym, ◌∙◌}
use Rattle.scan.proofs.Bytes.{same-pointwise}
use Rattle.scan.proofs.Numbers.{number-hexadecimal, number-decimal}
use Rattle.scan.proofs.number.Goals as goal

pub returns-in-Some : goal.returns-in-Some
returns-in-Some c =
    let found = c.in-Some.ensures.cases in
    c.figure.ensures ∙ rw found.1 (sym (number-hexadecimal c.args.text.now (same-pointwise _ _ ∙ found.0)))

pub returns-in-None : goal.returns-in-None
returns-in-None c = c.figure-in-None.ensures ∙ sym (number-decimal c.args.text.now (same-pointwise _ _ ∙ c.in-None.ensures.cases))
