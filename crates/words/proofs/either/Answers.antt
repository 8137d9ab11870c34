-- `words::either` meets its contract.
-- Assumes nothing.
use Rattle.words.proofs.BitLaws.{is_word, bit-or}
use Rattle.words.proofs.either.Goals as goal

pub returns : goal.returns
returns c = is_word 48 _ _ (λ i h. bit-or _ _ i)
