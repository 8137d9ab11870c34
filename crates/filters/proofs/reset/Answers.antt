-- `filters::reset` meets its contract.
-- Assumes nothing.
use mathlib.Core.Path.{refl}
use Rattle.filters.specs.Filters.{reset_filters}
use Rattle.filters.proofs.reset.Goals as goal

pub returns : goal.returns
unfolding reset_filters
returns c = refl
