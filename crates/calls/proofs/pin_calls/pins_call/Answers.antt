-- `calls::pin_calls::pins_call` meets its contract. What a call does not change of the pins is put back as it was.
-- Assumes nothing.
use Rattle.std.proofs.Common.{◌≡◌, false, eqb, sym, rules}
use borrow.Author.Tests.{eq-eqb}
use Rattle.ports.specs.Pins.{whole_at}
use Rattle.ports.proofs.Wholes.{put-own-filter, put-own-pin}
use Rattle.calls.specs.PinCalls.{whole_call}
use Rattle.calls.proofs.pin_calls.pins_call.Goals as goal

pub returns-in-Ok-FilterWrite : goal.returns-in-Ok-FilterWrite
unfolding whole_call
returns-in-Ok-FilterWrite c =
    let a = c.args in
    let kind : a.e.kind ≡ 30 = sym (rw c.in-Ok-FilterWrite.field-0-is at c.in-Ok-FilterWrite.ensures) in
    rw (c.accept.ensures, c.write_filter.ensures, eq-eqb a.e.kind 30 kind, put-own-pin a.pins c.requires.sound a.e.member a.e.v 0)

pub returns-in_default : goal.returns-in_default
unfolding whole_call whole_at
returns-in_default c =
    let a = c.args in
    let other : eqb a.e.kind 30 ≡ false = search rules in
    rw (c.put.ensures, c.pin_call-called.ensures, c.at.ensures, other, put-own-filter a.pins c.requires.sound a.e.member)
