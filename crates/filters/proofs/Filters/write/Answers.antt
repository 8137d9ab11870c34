-- `filters::Filters::write` meets its contract.
-- Assumes nothing.
use Rattle.filters.specs.Filters.{put_filter}
use Rattle.filters.proofs.Filters.write.Goals as goal

pub returns : goal.returns
unfolding put_filter
returns c = λ i. record { filter = c.put_number-self.ensures i; wait = c.put_number-self-2.ensures i }
