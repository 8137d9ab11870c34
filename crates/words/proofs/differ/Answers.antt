-- `words::differ` meets its contract.
-- Assumes nothing.
use Rattle.words.proofs.BitLaws.{is_word, bit-xor}
use Rattle.words.proofs.differ.Goals as goal

pub returns : goal.returns
returns c = is_word 48 _ _ (λ i h. bit-xor _ _ i)
