-- `textin::Reading::finished` meets its contract.
-- Assumes nothing.
use Rattle.std.proofs.Common.{sym, ◌∙◌}
use Rattle.textin.specs.Readings.{said_at, finished}
use Rattle.textin.proofs.Stages.{said-whole, said-bad}
use Rattle.textin.proofs.Reading.finished.Goals as goal

pub returns-in-Start : goal.returns-in-Start
unfolding finished said_at
returns-in-Start c = rw (c.of_kind.ensures, c.in-Start.is)

pub returns-in_default : goal.returns-in_default
unfolding finished
returns-in_default c = sym (said-whole c.args.self.stage c.args.self c.in_default.not-Start (sym c.is_whole.ensures ∙ c.if-is_whole.true))

pub returns-in_default-2 : goal.returns-in_default-2
unfolding finished
returns-in_default-2 c = rw c.wanted.ensures (sym (said-bad c.args.self.stage c.args.self c.in_default.not-Start (sym c.is_whole.ensures ∙ c.if-is_whole.false)))
