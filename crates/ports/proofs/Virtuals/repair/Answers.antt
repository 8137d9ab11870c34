-- `ports::Virtuals::repair` meets its contract.
-- Assumes nothing.
use mathlib.Core.Path.{◌∙◌}
use Rattle.words.specs.Bits.{word}
use Rattle.words.proofs.Arrays.{below_is}
use Rattle.ports.specs.Virtuals.{reset_virtuals, repaired_virtuals}
use Rattle.ports.proofs.Virtuals.repair.Goals as goal

pub returns : goal.returns
unfolding repaired_virtuals reset_virtuals word
returns c =
    let x = c.args.self in
    rw (c.below-3.ensures ∙ below_is 64 63 x.safeenable, c.below-2.ensures ∙ below_is 64 0 x.safedata, c.below.ensures ∙ below_is 64 0 x.own)
