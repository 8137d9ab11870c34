-- Document 01, "Results above 0", result 3: the field checks of a step and of each call.
-- Assumes nothing.
use Rattle.std.specs.Prelude.{Bool, not, cond, ◌&&◌, ◌||◌, List, [], ◌∷◌, ℕ, ◌^◌, eqb, ltb, get_or}
use Rattle.counter.specs.Mode.{good_mode}
use Rattle.calls.specs.declared.Event.{Event}

-- ---- a step

-- member, selector and spare 0, V the three lines of six channels, W the levels of 48 pins
unfoldable pub step_fits : Event → Bool
step_fits e =
    eqb e.member 0 && eqb e.selector 0 && eqb e.spare 0 && ltb e.v (2 ^ 18) && ltb e.w (2 ^ 48)

-- a step that is accepted
abbrev pub is_step : Event → Bool
is_step e = eqb e.kind 0 && step_fits e

-- ---- a call

-- V is below this, kind by kind: 2^32 where every V is taken, 1 where V is unused
unfoldable pub limits : List ℕ
limits =
    -- 0 is no call, 1 mode write, 2 preload write, 3 compare write, 4 route, 5 mask
    0 ∷ 2 ^ 28 ∷ 2 ^ 32 ∷ 2 ^ 32 ∷ 55 ∷ 512
    -- 6 start, 7 halt, 8 soft snapshot, 9 soft preload, 10 count read, 11 snapshot read, 12 status
    ∷ 1 ∷ 1 ∷ 1 ∷ 1 ∷ 1 ∷ 1 ∷ 1
    -- 13 source, 14 data, 15 safe data, 16 safe enable, 17 read
    ∷ 7 ∷ 2 ∷ 2 ∷ 2 ∷ 1
    -- 18 data, 19 safe data, 20 safe enable, 21 data read
    ∷ 2 ∷ 2 ∷ 2 ∷ 1
    -- 22 control, 23 SWE, 24 clear safemode, 25 interval, 26 watchdog enable, 27 kick, 28 timestamp, 29 status
    ∷ 8 ∷ 2 ∷ 1 ∷ 2 ^ 32 ∷ 2 ∷ 1 ∷ 1 ∷ 1
    -- 30 filter write
    ∷ 2 ^ 16
    ∷ []

unfoldable pub limit : ℕ → ℕ
limit k = get_or limits k 0

-- the selector is below this: a preload or compare register of calls 2 and 3, a stage of call 25
unfoldable pub selectors : ℕ → ℕ
selectors k = cond (eqb k 2 || eqb k 3) 2 (cond (eqb k 25) 3 1)

-- every field is as the call wants it: the spare and W 0; the selector and V below their limits; V a good mode word with call 1, not 0 with
-- call 25
unfoldable pub fits : Event → Bool
fits e =
    eqb e.spare 0
    && ltb e.selector (selectors e.kind)
    && eqb e.w 0
    && ltb e.v (limit e.kind)
    && (not (eqb e.kind 1) || good_mode e.v)
    && (not (eqb e.kind 25) || not (eqb e.v 0))
