-- `control::Safety::guard` meets its contract.
-- Assumes nothing.
use Rattle.std.proofs.Common.{◌≡◌, Bool, false, ◌&&◌, ◌||◌, ◌∙◌}
use mathlib.Core.Bool.{or-false}
use Rattle.control.specs.Safety.{pin_triggers, watchdog_triggers, with_safemode, guarded}
use Rattle.control.specs.declared.Safety.{Safety}
use Rattle.control.proofs.Safety.guard.Goals.{Joined-watchdog_triggers, then-watchdog_triggers, else-watchdog_triggers}
use Rattle.control.proofs.Safety.guard.Goals as goal

-- what the test of the watchdog leaves
abbrev watched : Bool → Safety → Safety
watched expired s = with_safemode (s.safemode || (watchdog_triggers s.control && expired)) s

found : (c : Joined-watchdog_triggers) → c.if-watchdog_triggers.self ≡ watched c.args.expired c.args.self
found c =
    let triggers = c.watchdog_triggers.ensures in
    elim c.if-watchdog_triggers.branch [
      | then-watchdog_triggers w ↦ w.self-is ∙ rw (← triggers, w.if-watchdog_triggers.true)
      | else-watchdog_triggers w ↦ w.self-is ∙ rw (← triggers, w.if-watchdog_triggers.false, or-false)
    ]

pub returns-then-pin_triggers : goal.returns-then-pin_triggers
unfolding guarded
returns-then-pin_triggers c =
    let c₁ = c.before.before.before in
    rw (found c₁.before, c.active_level.ensures, ← c₁.pin_triggers.ensures, c.if-pin_triggers.true)

-- without pin 47 that is all
alone : (expired pin47 : Bool) (s : Safety) → pin_triggers s.control ≡ false → watched expired s ≡ guarded expired pin47 s
unfolding guarded
alone expired pin47 s p = rw (p, or-false)

pub returns-else-pin_triggers : goal.returns-else-pin_triggers
returns-else-pin_triggers c =
    let a = c.args in
    found c.before.before ∙ alone a.expired a.pin47 a.self (rw (← c.pin_triggers.ensures) c.if-pin_triggers.false)
