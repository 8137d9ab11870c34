-- `ports::Pins::sense` meets its contract.
-- Assumes nothing.
use Rattle.ports.specs.Pins.{sensed, raw_level, pin_at}
use Rattle.ports.proofs.Pins.sense.Goals as goal

pub returns : goal.returns
unfolding sensed raw_level pin_at
returns c = rw (c.step-next.ensures, c.either-raw.ensures)
