-- `counter::stages::is_match` meets its contract.
-- Assumes nothing.
use Rattle.std.proofs.Common.{◌≡◌, ℕ, ◌%◌, not, ◌||◌, eqb, refl, ap, ◌∙◌}
use mathlib.Core.Bool.{or-false}
use Rattle.words.specs.Bits.{bit, some}
use Rattle.words.proofs.BitLaws.{is_some}
use Rattle.counter.specs.Advance.{is_match}
use Rattle.counter.proofs.stages.is_match.Goals as goal

-- the two lowest bits are not 0 where one of them is 1
matches : (reasons : ℕ) → not (eqb (reasons % 4) 0) ≡ is_match reasons
unfolding some
matches reasons =
    is_some 2 reasons (bit reasons) (λ j h. refl) ∙ ap (λ t. bit reasons 0 || t) (or-false (bit reasons 1))

pub returns : goal.returns
returns c = matches c.args.reasons
