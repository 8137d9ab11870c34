-- `counter::Channel::repair` meets its contract.
-- Assumes nothing.
use Rattle.counter.proofs.Signed.{back}
use Rattle.words.proofs.Arrays.{below_is}
use Rattle.counter.specs.Repair.{reset_channel, repaired}
use Rattle.std.proofs.Common.{◌∙◌, rules}
use Rattle.counter.proofs.Channel.repair.Goals as goal

pub returns : goal.returns
unfolding repaired reset_channel
returns c =
    let r = c.args.self in
    let carry = back r.carry (search rules) in
    let made = back c.in_carry.result c.in_carry.type_inv in
    rw (c.below-4.ensures ∙ below_is 17 0 r.held, c.in_reasons-self.ensures, made, c.in_carry.ensures, carry, c.below-3.ensures ∙ below_is 16 0 r.kept, c.below-2.ensures ∙ below_is 512 0 r.mask, c.below.ensures ∙ below_is 55 54 r.route, c.in_range.ensures)
