-- Document 01, "One event", calls 18 to 21, each on the virtual output's own record. The checks of fields and of SWE
-- are past.
-- Assumes nothing.
use Rattle.std.specs.Prelude.{Bool, cond, ℕ, eqb}
use Rattle.words.specs.Bits.{flag}
use Rattle.ports.specs.Virtuals.{virtual_at, put_virtual}
use Rattle.ports.specs.declared.Virtual.{Virtual}
use Rattle.ports.specs.declared.Virtuals.{Virtuals}
use Rattle.calls.specs.Reply.{reply, accept, tell}
use Rattle.calls.specs.declared.Reply.{Reply}
use Rattle.calls.specs.declared.Event.{Event}

abbrev pub with_own : Bool → Virtual → Virtual
with_own t o = record { own = t; safedata = o.safedata; safeenable = o.safeenable }

abbrev pub with_safe_data : Bool → Virtual → Virtual
with_safe_data t o = record { own = o.own; safedata = t; safeenable = o.safeenable }

abbrev pub with_safe_enable : Bool → Virtual → Virtual
with_safe_enable t o = record { own = o.own; safedata = o.safedata; safeenable = t }

-- 18 data, 19 safe data, 20 safe enable, 21 data read
unfoldable pub virtual_call : Event → Virtual → Reply Virtual
virtual_call e o =
    let k : ℕ = e.kind in
    cond (eqb k 18) (accept (with_own (eqb e.v 1) o))
    (cond (eqb k 19) (accept (with_safe_data (eqb e.v 1) o))
    (cond (eqb k 20) (accept (with_safe_enable (eqb e.v 1) o))
    (tell (flag o.own) o)))

-- on the output that the event names, put back in its place
abbrev pub virtuals_call : Event → Virtuals → Reply Virtuals
virtuals_call e x =
    let r : Reply Virtual = virtual_call e (virtual_at x e.member) in
    reply (put_virtual e.member r.state x) r.answer
