-- `counter::Channel::next` meets its contract.
-- Assumes nothing.
use Rattle.counter.specs.Advance.{next_of}
use Rattle.counter.proofs.Signed.{back}
use Rattle.counter.proofs.Channel.next.Goals as goal

pub returns : goal.returns
unfolding next_of
returns c = let k = c.count_on-k in
    rw (back k.result.carry c.struct_told-1.given.1.1.0.1, c.load-l.ensures, c.masked-caught.ensures, k.ensures)
