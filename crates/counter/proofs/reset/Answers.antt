-- `counter::reset` meets its contract.
-- Assumes nothing.
use Rattle.std.proofs.Common.{refl}
use Rattle.counter.specs.Repair.{reset_channel}
use Rattle.counter.proofs.reset.Goals as goal

pub returns : goal.returns
unfolding reset_channel
returns c = refl
