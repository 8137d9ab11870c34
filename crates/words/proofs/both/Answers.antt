-- `words::both` meets its contract.
-- Assumes nothing.
use Rattle.words.proofs.BitLaws.{is_word, bit-and}
use Rattle.words.proofs.both.Goals as goal

pub returns : goal.returns
returns c = is_word 48 _ _ (λ i h. bit-and _ _ i)
