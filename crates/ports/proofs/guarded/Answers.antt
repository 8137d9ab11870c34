-- `ports::guarded` meets its contract.
-- Assumes nothing.
use Rattle.words.proofs.BitLaws.{word-ext, bit_word}
use Rattle.ports.proofs.guarded.Goals as goal

pub returns : goal.returns
returns c =
    rw (c.select.ensures, c.both.ensures, c.all.ensures) (word-ext 48 _ _ (λ i h. simp bit_word))
