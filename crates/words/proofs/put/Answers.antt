-- `words::put` meets its contract.
-- Assumes nothing.
use Rattle.words.proofs.BitLaws.{word-ext, bit_word}
use Rattle.words.proofs.put.Goals as goal

pub returns : goal.returns
returns c = rw (c.select.ensures, c.all.ensures, c.only.ensures) (word-ext 48 _ _ (λ i h. simp bit_word))
