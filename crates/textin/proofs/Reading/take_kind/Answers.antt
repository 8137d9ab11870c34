-- `textin::Reading::take_kind` meets its contract.
-- Assumes nothing.
use Rattle.std.proofs.Common.{◌≡◌, sym, ◌∙◌}
use borrow.Author.Tests.{ne_eqb}
use Rattle.textin.specs.Readings.{begun, take_kind}
use Rattle.textin.proofs.Reading.take_kind.Goals as goal

pub returns-in-None : goal.returns-in-None
unfolding take_kind begun
returns-in-None c = rw (c.spoilt.ensures, ← c.kind_of.ensures, c.in-None.is)

pub returns-in-Some-Kind-eq0 : goal.returns-in-Some-Kind-eq0
unfolding take_kind begun
returns-in-Some-Kind-eq0 c =
    let arm = c.in-Some-Kind-eq0 in
    let zero : arm.field-0-0 ≡ 0 = sym arm.field-0-0-is ∙ arm.field-0-0-test in
    rw (c.new.ensures, ← c.kind_of.ensures, arm.is, arm.field-0-is, zero)

pub returns-in-Some-Kind : goal.returns-in-Some-Kind
unfolding take_kind begun
returns-in-Some-Kind c =
    let arm = c.in-Some-Kind in
    rw (c.new-in-Some-Kind.ensures, c.fields_of.ensures, ← c.kind_of.ensures, arm.is, arm.field-0-is, ne_eqb arm.k 0 (λ e. arm.k-test.1 (arm.k-is ∙ e)))

pub returns-in-Some-Raw : goal.returns-in-Some-Raw
unfolding take_kind begun
returns-in-Some-Raw c = rw (c.new-in-Some-Raw.ensures, ← c.kind_of.ensures, c.in-Some-Raw.is, c.in-Some-Raw.field-0-is)
