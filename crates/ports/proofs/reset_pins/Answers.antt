-- `ports::reset_pins` meets its contract.
-- Assumes nothing.
use Rattle.ports.specs.Pins.{reset_pins}
use Rattle.ports.proofs.reset_pins.Goals as goal

pub returns : goal.returns
unfolding reset_pins
returns c = rw (c.reset.ensures, c.all.ensures)
