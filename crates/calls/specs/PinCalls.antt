-- Document 01, "One event", calls 13 to 17, each on the pin's own record, and call 30 of request 6 on the pin with its filter. The checks of fields
-- and of SWE are past.
-- Assumes nothing.
use Rattle.std.specs.Prelude.{Bool, cond, ℕ, eqb}
use Rattle.words.specs.Bits.{flag}
use Rattle.ports.specs.Pins.{WholePin, whole_at, put_whole}
use Rattle.ports.specs.declared.Pin.{Pin}
use Rattle.ports.specs.declared.Pins.{Pins}
use Rattle.calls.specs.Reply.{reply, accept, tell}
use Rattle.calls.specs.declared.Reply.{Reply}
use Rattle.calls.specs.declared.Event.{Event}

abbrev pub with_source : ℕ → Pin → Pin
with_source n p =
    record { source = n; own = p.own; safedata = p.safedata; safeenable = p.safeenable; level = p.level; driven = p.driven }

abbrev pub with_own : Bool → Pin → Pin
with_own t p =
    record { source = p.source; own = t; safedata = p.safedata; safeenable = p.safeenable; level = p.level; driven = p.driven }

abbrev pub with_safe_data : Bool → Pin → Pin
with_safe_data t p =
    record { source = p.source; own = p.own; safedata = t; safeenable = p.safeenable; level = p.level; driven = p.driven }

abbrev pub with_safe_enable : Bool → Pin → Pin
with_safe_enable t p =
    record { source = p.source; own = p.own; safedata = p.safedata; safeenable = t; level = p.level; driven = p.driven }

-- 13 source, 14 data, 15 safe data, 16 safe enable, 17 read
unfoldable pub pin_call : Event → Pin → Reply Pin
pin_call e p =
    let k : ℕ = e.kind in
    cond (eqb k 13) (accept (with_source e.v p))
    (cond (eqb k 14) (accept (with_own (eqb e.v 1) p))
    (cond (eqb k 15) (accept (with_safe_data (eqb e.v 1) p))
    (cond (eqb k 16) (accept (with_safe_enable (eqb e.v 1) p))
    (tell (flag p.level) p))))

abbrev pub with_pin : Pin → WholePin → WholePin
with_pin p q = record { pin = p; filter = q.filter; wait = q.wait }

-- 30 filter: the wait begins afresh, and the filtered level stays
abbrev pub filter_write : ℕ → WholePin → Reply WholePin
filter_write f q = accept (record { pin = q.pin; filter = f; wait = 0 })

-- every call of a pin, on the pin with its filter
unfoldable pub whole_call : Event → WholePin → Reply WholePin
whole_call e q =
    let r : Reply Pin = pin_call e q.pin in
    cond (eqb e.kind 30) (filter_write e.v q) (reply (with_pin r.state q) r.answer)

-- on the pin that the event names, put back in its place
abbrev pub pins_call : Event → Pins → Reply Pins
pins_call e x =
    let r : Reply WholePin = whole_call e (whole_at x e.member) in
    reply (put_whole e.member r.state x) r.answer
