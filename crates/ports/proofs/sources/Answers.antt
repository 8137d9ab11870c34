-- `ports::sources` meets its contract.
-- Assumes nothing.
use Rattle.words.specs.Bits.{bit}
use Rattle.words.proofs.BitLaws.{word-ext, bit_word}
use Rattle.ports.proofs.Planes.{by-planes}
use Rattle.ports.proofs.sources.Goals as goal

pub returns : goal.returns
returns c =
    rw (c.select-5.ensures, c.select-high.ensures, c.select-4.ensures, c.all-6.ensures, c.bit-6.ensures, c.all-5.ensures, c.bit-5.ensures, c.select-3.ensures, c.all-4.ensures, c.bit-4.ensures, c.select-low.ensures, c.select-2.ensures, c.all-3.ensures, c.bit-3.ensures, c.select.ensures, c.all-2.ensures, c.bit-2.ensures, c.all.ensures, c.bit.ensures)
    (word-ext 48 _ _ (λ i h. simp bit_word (let a = c.args in by-planes (bit a.s0 i) (bit a.s1 i) (bit a.s2 i) (bit a.own i) a.outs)))
