-- `counter::stages::edge_reasons` meets its contract.
-- Assumes nothing.
use Rattle.words.specs.Bits.{bit}
use Rattle.counter.specs.Advance.{edge_reasons}
use Rattle.words.proofs.BitLaws.{bit-without}
use Rattle.counter.proofs.stages.edge_reasons.Goals as goal

pub returns : goal.returns
unfolding edge_reasons bit
returns c = let k = c.args.kept in
    let n = c.args.now in
    rw (
      c.flags.ensures.is,
      c.extin-2.ensures,
      c.extin.ensures,
      c.index-2.ensures,
      c.index.ensures,
      bit-without k n 2,
      bit-without n k 2,
      bit-without k n 3,
      bit-without n k 3,
    )
