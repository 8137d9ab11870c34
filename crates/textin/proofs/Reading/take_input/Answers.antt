-- `textin::Reading::take_input` meets its contract.
-- Assumes nothing.
use Rattle.std.proofs.Common.{sym, ◌∙◌}
use Rattle.textin.specs.Readings.{take_input}
use Rattle.textin.proofs.Inputs.{input-below}
use Rattle.textin.proofs.Reading.take_input.Goals as goal

pub raised-requires : goal.raised-requires
raised-requires c = input-below c.args.w.now c.in-Some.u (sym c.input_of.ensures ∙ c.in-Some.is)

pub returns-in-Some : goal.returns-in-Some
unfolding take_input
returns-in-Some c = rw (c.raised.ensures, ← c.input_of.ensures, c.in-Some.is)

pub returns-in-None : goal.returns-in-None
unfolding take_input
returns-in-None c = rw (c.take_star.ensures, ← c.input_of.ensures, c.in-None.is)
