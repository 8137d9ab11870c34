-- `counter::stages::masked` meets its contract.
-- Assumes nothing.
use Rattle.words.proofs.BitLaws.{is_word, bit-and}
use Rattle.counter.specs.Advance.{masked}
use Rattle.counter.proofs.stages.masked.Goals as goal

pub returns : goal.returns
unfolding masked
returns c = is_word 9 _ _ (λ i h. bit-and _ _ i)
