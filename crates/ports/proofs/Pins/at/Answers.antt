-- `ports::Pins::at` meets its contract.
-- Assumes nothing.
use Rattle.ports.specs.Pins.{pin_at}
use Rattle.ports.proofs.Pins.at.Goals as goal

pub returns : goal.returns
unfolding pin_at
returns c =
    rw (c.bit-8.ensures, c.bit-7.ensures, c.bit-6.ensures, c.bit-5.ensures, c.bit-4.ensures, c.number.ensures, c.bit-3.ensures, c.bit-2.ensures, c.bit.ensures)
