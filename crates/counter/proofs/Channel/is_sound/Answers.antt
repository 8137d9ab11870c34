-- `counter::Channel::is_sound` meets its contract.
-- Assumes nothing.
use Rattle.counter.specs.Repair.{channel_in_range}
use Rattle.counter.proofs.Signed.{back}
use Rattle.std.proofs.Common.{rules}
use Rattle.words.proofs.Arrays.{all-below}
use Rattle.counter.proofs.Channel.is_sound.Goals as goal

pub returns : goal.returns
unfolding channel_in_range
returns c =
    let carry = back c.args.self.carry c.struct_told-1.given.1.1.1.1.1.1.1.1.1.1.1.0.1 in
    rw (c.are_below.ensures, all-below 512 16 c.args.self.reasons (search rules), c.is_carry.ensures, carry, c.is_good.ensures)
