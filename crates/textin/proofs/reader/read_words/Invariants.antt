-- `textin::reader::read_words` meets its contract.
-- Assumes nothing.
use Rattle.std.proofs.Common.{◌≡◌}
use Rattle.textin.specs.Readings.{starting, take_word}
use Rattle.textin.proofs.Yields.{over_parts}
use Rattle.textin.proofs.reader.read_words.Given as goal

-- the state is what the words so far say
abbrev pub invariant-loop-w : goal.invariant-loop-w
invariant-loop-w l = l.s ≡ over_parts take_word starting l.yielded
