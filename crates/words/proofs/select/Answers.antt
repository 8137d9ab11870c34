-- `words::select` meets its contract.
-- Assumes nothing.
use Rattle.words.proofs.BitLaws.{is_word, bit-select}
use Rattle.words.proofs.select.Goals as goal

pub returns : goal.returns
returns c = is_word 48 _ _ (λ i h. bit-select _ _ _ i)
