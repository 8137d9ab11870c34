-- `scan::worth` meets its contract.
-- Assumes nothing.
use mathlib.Core.Path.{◌≡◌, refl, sym, ◌∙◌}
use mathlib.Core.Bool.{cond}
use Prim.Native.Nat.{ℕ, ◌<◌}
use lib.Dec.{ltb}
use Rattle.std.proofs.Common.{rules}
use Rattle.std.specs.Char.{digit_value}
use Rattle.words.specs.Table.{tab}
use Rattle.words.proofs.Tables.{tab-at}
use Rattle.scan.specs.Numbers.{worth}
use Rattle.scan.proofs.worth.Goals as goal

-- what the library's digits are worth
of_digit : (b : ℕ) → b < 256 → cond (ltb (digit_value b) 16) (digit_value b) 16 ≡ worth b
unfolding worth tab
of_digit = tab-at 256 (λ b. cond (ltb (digit_value b) 16) (digit_value b) 16) worth refl

pub returns : goal.returns
returns c =
    let e : c.map_or.result ≡ cond (ltb (digit_value c.args.b) 16) (digit_value c.args.b) 16 = search rules in
    e ∙ of_digit c.args.b c.ranges.b.fits
