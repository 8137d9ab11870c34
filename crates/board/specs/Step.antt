-- Document 01, "The step": the six parts, in their order.
-- Assumes nothing.
use Rattle.std.specs.Prelude.{Bool, List, ℕ}
use Rattle.words.specs.Bits.{bit}
use Rattle.counter.specs.declared.Channel.{Channel}
use Rattle.ports.specs.Pins.{sensed, driven}
use Rattle.ports.specs.Virtuals.{virtual_levels}
use Rattle.ports.specs.declared.Pins.{Pins}
use Rattle.control.specs.Clock.{advanced, rises_at, ticks}
use Rattle.control.specs.Watchdog.{has_expired, watched}
use Rattle.control.specs.Safety.{guarded}
use Rattle.control.specs.declared.Clock.{Clock}
use Rattle.control.specs.declared.Watchdog.{Watchdog}
use Rattle.control.specs.declared.Core.{Core}
use Rattle.board.specs.Inputs.{extouts, all_next}
use Rattle.board.specs.declared.Scene.{Scene}
use Rattle.board.specs.declared.Board.{Board}

-- what every channel can see: the lines of this step, the ExtOuts of the last, the clock, and the levels of the pins and of the virtual outputs
-- in this step
unfoldable pub scene_of : ℕ → ℕ → Clock → ℕ → ℕ → Scene
scene_of v outs clock levels virtuals =
    record {
      lines = v;
      outs = outs;
      ticks = ticks clock.prescaler;
      levels = levels;
      virtuals = virtuals;
      timestamp = clock.timestamp;
      rises = rises_at clock.prescaler;
    }

-- the same in a step on the board b, of which part 2 has made these pins and parts 1, 3 and 4 this core: the virtual outputs go by the safemode that
-- part 4 has found (request 2)
abbrev pub scene_in : ℕ → Pins → Core → Board → Scene
scene_in v pins core b =
    scene_of v (extouts b.channels) core.clock pins.level (virtual_levels core.safety.safemode b.virtuals)

-- parts 1, 3 and 4: the clock, the watchdog, of which `watch` makes the next, then safemode, which goes by stage 0
unfoldable pub core_next : (Watchdog → Watchdog) → Bool → Core → Core
core_next watch pin47 k =
    let dog : Watchdog = watch k.watchdog in
    record { clock = advanced k.clock; watchdog = dog; safety = guarded (has_expired dog 0) pin47 k.safety }

-- with what `sense` makes of W and the pins for their levels, and `watch` of the watchdog
unfoldable pub step_with : (ℕ → Pins → Pins) → (Watchdog → Watchdog) → ℕ → ℕ → Board → Board
step_with sense watch v w b =
    -- part 2
    let pins : Pins = sense w b.pins in
    -- parts 1, 3 and 4
    let core : Core = core_next watch (bit pins.level 47) b.core in
    -- part 5
    let channels : List Channel = all_next (scene_in v pins core b) b.channels in
    -- part 6
    record {
      channels = channels;
      pins = driven (extouts channels) core.safety.safemode pins;
      virtuals = b.virtuals;
      core = core;
    }

unfoldable pub stepped : ℕ → ℕ → Board → Board
stepped v w b = step_with sensed watched v w b
