-- `control::Safety::repair` meets its contract.
-- Assumes nothing.
use mathlib.Core.Path.{◌∙◌}
use Rattle.words.proofs.Arrays.{below_is}
use Rattle.control.specs.Safety.{repaired_safety}
use Rattle.control.proofs.Safety.repair.Goals as goal

pub returns : goal.returns
unfolding repaired_safety
returns c = rw (c.below.ensures ∙ below_is 8 0 c.args.self.control)
