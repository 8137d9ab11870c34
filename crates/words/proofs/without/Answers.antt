-- `words::without` meets its contract.
-- Assumes nothing.
use Rattle.words.proofs.BitLaws.{is_word, bit-without}
use Rattle.words.proofs.without.Goals as goal

pub returns : goal.returns
returns c = is_word 48 _ _ (λ i h. bit-without _ _ i)
