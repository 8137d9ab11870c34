-- `textin::Stage::wanted` meets its contract.
-- Assumes nothing.
use borrow.Author.Tests.{eq-eqb, ne_eqb}
use Rattle.textin.specs.Readings.{wanted_by}
use Rattle.textin.proofs.Stage.wanted.Goals as goal

pub returns-in-Start : goal.returns-in-Start
unfolding wanted_by
returns-in-Start c = rw c.in-Start.is

pub returns-in-Step : goal.returns-in-Step
unfolding wanted_by
returns-in-Step c = rw c.in-Step.is

pub returns-in-Inputs : goal.returns-in-Inputs
unfolding wanted_by
returns-in-Inputs c = rw c.in-Inputs.is

pub returns-in-Times : goal.returns-in-Times
unfolding wanted_by
returns-in-Times c = rw c.in-Times.is

pub returns-in-End : goal.returns-in-End
unfolding wanted_by
returns-in-End c = rw c.in-End.is

pub returns-in-Bad : goal.returns-in-Bad
unfolding wanted_by
returns-in-Bad c = rw c.in-Bad.is

pub returns-then-left-eq0 : goal.returns-then-left-eq0
unfolding wanted_by
returns-then-left-eq0 c = rw (c.in-Fields.is, eq-eqb c.in-Fields.left 0 c.if-left-eq0.true)

pub returns-then-left-eq-SELECTOR_LAST : goal.returns-then-left-eq-SELECTOR_LAST
unfolding wanted_by
returns-then-left-eq-SELECTOR_LAST c = rw (c.in-Fields.is, ne_eqb c.in-Fields.left 0 c.if-left-eq0.false, eq-eqb c.in-Fields.left 3 c.if-left-eq-SELECTOR_LAST.true)

pub returns-else-left-eq-SELECTOR_LAST : goal.returns-else-left-eq-SELECTOR_LAST
unfolding wanted_by
returns-else-left-eq-SELECTOR_LAST c = rw (c.in-Fields.is, ne_eqb c.in-Fields.left 0 c.if-left-eq0.false, ne_eqb c.in-Fields.left 3 c.if-left-eq-SELECTOR_LAST.false) c.wanted_field.ensures
