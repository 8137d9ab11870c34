-- `ports::mended` meets its contract.
-- Assumes nothing.
use mathlib.Core.Path.{ap}
use mathlib.Core.Bool.{◌&&◌}
use Rattle.words.specs.Bits.{bit}
use Rattle.words.proofs.BitLaws.{word-ext, bit_word}
use Rattle.ports.proofs.Planes.{not-seven}
use Rattle.ports.proofs.mended.Goals as goal

pub returns : goal.returns
returns c =
    rw (c.without.ensures, c.both-2.ensures, c.both.ensures)
    (let a = c.args in word-ext 48 _ _ (λ i h. simp bit_word (ap (λ t. bit a.s i && t) (not-seven (bit a.s0 i) (bit a.s1 i) (bit a.s2 i)))))
