-- `words::only` meets its contract.
-- Assumes nothing.
use Rattle.words.proofs.BitLaws.{is_word, bit-shl}
use borrow.Author.Rules.{rules}
use Rattle.words.proofs.only.Goals as goal

pub returns : goal.returns
returns c = is_word 48 _ _ (λ i h. bit-shl _ i (search rules))
