-- `words::cut` meets its contract.
-- Assumes nothing.
use Rattle.words.proofs.BitLaws.{word_of}
use Rattle.words.proofs.cut.Goals as goal

pub returns : goal.returns
returns c = word_of 48 _
