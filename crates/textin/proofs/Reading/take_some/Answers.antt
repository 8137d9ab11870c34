-- `textin::Reading::take_some` meets its contract.
-- Assumes nothing.
use Rattle.std.proofs.Common.{sym, ◌∙◌}
use Rattle.textin.specs.Readings.{take_at, take_some}
use Rattle.textin.proofs.Stages.{at_stage, at-none, at-last, at-some, at-end}
use Rattle.textin.proofs.Reading.take_some.Goals as goal

pub returns-in-Start : goal.returns-in-Start
unfolding take_some take_at
returns-in-Start c = c.take_kind.ensures ∙ sym (at_stage _ c.args.self _ c.in-Start.is)

pub returns-then-left-eq0 : goal.returns-then-left-eq0
unfolding take_some take_at
returns-then-left-eq0 c = c.take_star.ensures ∙ sym (at_stage _ c.args.self _ c.in-Fields.is ∙ at-none _ _ _ c.if-left-eq0.true)

pub returns-then-left-eq-SELECTOR_LAST : goal.returns-then-left-eq-SELECTOR_LAST
unfolding take_some take_at
returns-then-left-eq-SELECTOR_LAST c = c.take_last.ensures ∙ sym (at_stage _ c.args.self _ c.in-Fields.is ∙ at-last _ _ _ c.if-left-eq-SELECTOR_LAST.true)

pub returns-else-left-eq-SELECTOR_LAST : goal.returns-else-left-eq-SELECTOR_LAST
unfolding take_some take_at
returns-else-left-eq-SELECTOR_LAST c = c.take_field.ensures ∙ sym (at_stage _ c.args.self _ c.in-Fields.is ∙ at-some _ _ _ c.if-left-eq0.false c.if-left-eq-SELECTOR_LAST.false)

pub returns-in-Step : goal.returns-in-Step
unfolding take_some take_at
returns-in-Step c = c.take_step.ensures ∙ sym (at_stage _ c.args.self _ c.in-Step.is)

pub returns-in-Inputs : goal.returns-in-Inputs
unfolding take_some take_at
returns-in-Inputs c = c.take_input.ensures ∙ sym (at_stage _ c.args.self _ c.in-Inputs.is)

pub returns-in-Times : goal.returns-in-Times
unfolding take_some take_at
returns-in-Times c = c.take_times.ensures ∙ sym (at_stage _ c.args.self _ c.in-Times.is)

pub returns-in-End : goal.returns-in-End
returns-in-End c = c.spoilt.ensures ∙ sym (at-end c.args.self _ c.in-End.is)
