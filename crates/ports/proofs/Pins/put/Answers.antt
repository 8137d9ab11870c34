-- `ports::Pins::put` meets its contract.
-- Assumes nothing.
use Rattle.ports.specs.Pins.{put_pin}
use Rattle.ports.proofs.Pins.put.Goals as goal

pub returns : goal.returns
unfolding put_pin
returns c =
    rw (c.put-8.ensures, c.bit-3.ensures, c.put-7.ensures, c.bit-2.ensures, c.put-6.ensures, c.bit.ensures, c.from-s.ensures, c.put-5.ensures, c.put-4.ensures, c.put-3.ensures, c.put-2.ensures, c.put.ensures)
