-- `textin::reader::input_up` meets its contract.
-- Assumes nothing.
use Rattle.std.proofs.Common.{◌≡◌, ℕ, ◌%◌, ◌^◌, true, arith}
use Rattle.words.specs.Bits.{put_bit}
use Rattle.words.proofs.BitLaws.{bit_word, is_word}
use Rattle.textin.proofs.reader.input_up.Goals as goal

-- 18 bits of a word of 48 bits
cut-put : (i v : ℕ) → put_bit 48 i true v % 2 ^ 18 ≡ put_bit 18 i true v
cut-put i v = is_word 18 (put_bit 48 i true v) _ (λ j h. bit_word 48 _ j (omega arith))

pub returns : goal.returns
returns c = rw c.put.ensures (cut-put c.args.i c.args.v)
