-- `textin::Stage::is_whole` meets its contract.
-- Assumes nothing.
use borrow.Author.Tests.{eq-eqb, ne_eqb}
use Rattle.textin.specs.Readings.{whole}
use Rattle.textin.proofs.Stages.{may-end, may-not-end}
use Rattle.textin.proofs.Stage.is_whole.Goals as goal

pub returns-then-left-eq0 : goal.returns-then-left-eq0
unfolding whole
returns-then-left-eq0 c = rw (c.in-Fields.is, eq-eqb c.in-Fields.left 0 c.if-left-eq0.true)

pub returns-else-left-eq0 : goal.returns-else-left-eq0
unfolding whole
returns-else-left-eq0 c = rw (c.in-Fields.is, ne_eqb c.in-Fields.left 0 c.if-left-eq0.false)

pub returns-in-Step : goal.returns-in-Step
returns-in-Step c = may-end c.args.self c.in-Step.is

pub returns-in-Start : goal.returns-in-Start
returns-in-Start c = may-not-end c.args.self c.in-Start.is
