-- Document 01, "Bench readings", a to j, and what requests 1 to 6 changed: lists of events from reset, what is then looked at, and the numbers that
-- are read.
-- Assumes nothing.
use Rattle.std.specs.Prelude.{List, [], ◌∷◌, ◌++◌, map, ℕ, zero, suc, ◌*◌, ◌^◌, replicate}
use Rattle.words.specs.Bits.{flag}
use Rattle.calls.specs.Events.{call, register, lines}
use Rattle.calls.specs.declared.Event.{Event}
use Rattle.calls.specs.declared.Answer.{Answer}
use Rattle.calls.specs.declared.Reply.{Reply}
use Rattle.board.specs.Inputs.{channel_in}
use Rattle.board.specs.Respond.{respond}
use Rattle.board.specs.Handed.{reset_board}
use Rattle.board.specs.Runs.{finish, replies}
use Rattle.board.specs.declared.Board.{Board}

-- ---- events

-- n steps with every line down
unfoldable pub steps : ℕ → List Event
steps n = replicate n (lines 0 0)

-- the steps with the lines of channel 0 at A + 2 B
unfoldable pub traced : List ℕ → List Event
traced l = map (λ v. lines v 0) l

-- the steps with these external levels of pin 5
unfoldable pub fed : List ℕ → List Event
fed l = map (λ n. lines 0 (n * 2 ^ 5)) l

-- ---- what is looked at after the events

pub data Look : Type 0 where
  -- a channel's count
  count : ℕ → Look
  -- a channel's ExtOut after each of further events
  extouts : ℕ → List Event → Look
  -- what call 17 tells of a pin after each of further events
  levels : ℕ → List Event → Look
  -- the four numbers of the answer to each of further events
  answers : List Event → Look

-- the answer to one event more
abbrev pub answer : Event → Look
answer e = answers (e ∷ [])

-- a number of each of the boards
unfoldable pub of_each : (Board → ℕ) → List (Reply Board) → List ℕ
of_each f [] = []
of_each f (r ∷ rs) = f r.state ∷ of_each f rs

-- the numbers of all answers in a row
unfoldable pub answers_in : List (Reply Board) → List ℕ
answers_in [] = []
answers_in (r ∷ rs) =
    let a : Answer = r.answer in
    a.result ∷ a.value ∷ a.timestamp ∷ a.reason ∷ answers_in rs

unfoldable pub seen : Board → Look → List ℕ
seen b (count c) = (channel_in b.channels c).count ∷ []
seen b (extouts c es) = of_each (λ x. flag (channel_in x.channels c).extout) (replies respond b es)
seen b (levels p es) = of_each (λ x. (respond x (call 17 p 0)).answer.value) (replies respond b es)
seen b (answers es) = answers_in (replies respond b es)

pub record Reading : Type 0 where
  pub events : List Event
  pub look : Look
  pub numbers : List ℕ

abbrev pub reading : List Event → Look → List ℕ → Reading
reading es l ns = record { events = es; look = l; numbers = ns }

-- what the machine gives
unfoldable pub read : Reading → List ℕ
read r = seen (finish respond reset_board r.events) r.look

-- ---- the settings of each reading

-- a, b: channel 0 in mode 0x014C0120, preload 3, mask 4, started
unfoldable pub delay : List Event
delay = call 1 0 0x014C0120 ∷ call 2 0 3 ∷ call 5 0 4 ∷ call 6 0 0 ∷ []

-- c, d, i: channel m counts every step from 4294967295, and channel n its carries
unfoldable pub cascade : ℕ → ℕ → List Event
cascade m n = call 1 m 0x30 ∷ call 2 m 4294967295 ∷ call 9 m 0 ∷ call 6 m 0 ∷ call 1 n 0x40 ∷ call 6 n 0 ∷ []

-- e: channel 0 by a quadrature mode, through 00, 10, 11, 01, 00
unfoldable pub turn : ℕ → List Event
turn mode = call 1 0 mode ∷ call 6 0 0 ∷ traced (1 ∷ 3 ∷ 2 ∷ 0 ∷ [])

-- f: both lines change at once
unfoldable pub error : List Event
error = call 1 0 0x70 ∷ call 5 0 256 ∷ call 6 0 0 ∷ traced (3 ∷ [])

-- g: seventeen soft snapshots
unfoldable pub seventeen : List Event
seventeen = replicate 17 (call 8 0 0)

-- g: the answers to reads of n of their captures
unfoldable pub entries : ℕ → List ℕ
entries zero = []
entries (suc n) = 0 ∷ 0 ∷ 0 ∷ 128 ∷ entries n

-- h: channel 0 in mode 0x01682030 with preloads 2 and 3, started
unfoldable pub pulses : List Event
pulses = call 1 0 0x01682030 ∷ call 2 0 2 ∷ register 2 0 1 3 ∷ call 6 0 0 ∷ []

-- request 1: channel 0 in mode 0x40030, OM 1, with n captures held, compare 0 at 2 and mask 1, started
unfoldable pub heads : ℕ → List Event
heads n = replicate n (call 8 0 0) ++ (call 1 0 0x40030 ∷ call 3 0 2 ∷ call 5 0 1 ∷ call 6 0 0 ∷ [])

-- request 2: channel 0 in mode m, with the route to virtual output 0, which is high, started
unfoldable pub gate : ℕ → List Event
gate m = call 18 0 1 ∷ call 1 0 m ∷ call 4 0 48 ∷ call 6 0 0 ∷ []

-- request 2: a high pin 47 sets safemode
abbrev pub button : Event
button = call 22 0 3

-- request 2: a step with the button on pin 47 pressed
abbrev pub pressed : Event
pressed = lines 0 (2 ^ 47)

-- the watchdog enabled, with these intervals of its stages
unfoldable pub staged : ℕ → ℕ → ℕ → List Event
staged a b c = register 25 0 0 a ∷ register 25 0 1 b ∷ register 25 0 2 c ∷ call 26 0 1 ∷ []

-- the answer of a read
abbrev told : ℕ → List ℕ
told n = 0 ∷ n ∷ 0 ∷ 0 ∷ []

abbrev pub status_read : Look
status_read = answer (call 29 0 0)

-- request 5: the four safe writes
abbrev pub safe_writes : Look
safe_writes = answers (call 15 47 0 ∷ call 16 47 0 ∷ call 19 5 0 ∷ call 20 5 0 ∷ [])

-- request 5: pin 0 in safemode, two steps after its safe data was written as 1
unfoldable pub safe_pin : List Event
safe_pin = call 15 0 1 ∷ call 22 0 1 ∷ steps 2

-- request 6: the level of pin 5 after each of these steps, with a filter of n
unfoldable pub filtering : ℕ → List ℕ → List ℕ → Reading
filtering n raw filtered = reading (call 30 5 n ∷ []) (levels 5 (fed raw)) filtered

-- answers with nothing but their results
abbrev pub results : List ℕ → List ℕ
results [] = []
results (r ∷ rs) = r ∷ 0 ∷ 0 ∷ 0 ∷ results rs

-- ---- the table

unfoldable pub table : List Reading
table =
    -- a
    reading (delay ++ steps 50) (count 0) (2 ∷ [])
    ∷ reading (delay ++ steps 149) (answer (call 11 0 0)) (5 ∷ 0 ∷ 0 ∷ 0 ∷ [])
    ∷ reading (delay ++ steps 150) (answer (call 11 0 0)) (0 ∷ 0 ∷ 3 ∷ 4 ∷ [])
    ∷ reading delay (extouts 0 (steps 150)) (replicate 149 1 ++ (0 ∷ []))
    -- b
    ∷ reading (delay ++ steps 200) (count 0) (0 ∷ [])
    -- c
    ∷ reading (cascade 0 1) (count 0) (4294967295 ∷ [])
    ∷ reading (cascade 0 1 ++ steps 1) (count 0) (0 ∷ [])
    -- d
    ∷ reading (cascade 0 1 ++ steps 1) (count 1) (0 ∷ [])
    ∷ reading (cascade 0 1 ++ steps 2) (count 1) (1 ∷ [])
    -- e
    ∷ reading (turn 0x70) (count 0) (4 ∷ [])
    ∷ reading (turn 0x60) (count 0) (2 ∷ [])
    ∷ reading (turn 0x50) (count 0) (1 ∷ [])
    -- f
    ∷ reading error (count 0) (0 ∷ [])
    ∷ reading error (answer (call 11 0 0)) (0 ∷ 0 ∷ 0 ∷ 256 ∷ [])
    -- g
    ∷ reading seventeen (answers (replicate 18 (call 11 0 0))) (6 ∷ 1 ∷ 0 ∷ 0 ∷ entries 16 ++ (5 ∷ 0 ∷ 0 ∷ 0 ∷ []))
    -- h
    ∷ reading pulses (extouts 0 (steps 7)) (1 ∷ 0 ∷ 0 ∷ 0 ∷ 1 ∷ 1 ∷ 0 ∷ [])
    -- i
    ∷ reading (cascade 5 0 ++ steps 1) (count 0) (0 ∷ [])
    ∷ reading (cascade 5 0 ++ steps 2) (count 0) (1 ∷ [])
    -- j
    ∷ reading [] (answer (call 25 0 0)) (3 ∷ 0 ∷ 0 ∷ 0 ∷ [])
    ∷ reading [] (answer (call 25 0 1)) (0 ∷ 0 ∷ 0 ∷ 0 ∷ [])
    -- request 1: room for the entry of the match, no room, no room after a 6, room after an entry was read
    ∷ reading (heads 15) (extouts 0 (steps 3)) (0 ∷ 1 ∷ 0 ∷ [])
    ∷ reading (heads 16) (extouts 0 (steps 3)) (0 ∷ 0 ∷ 0 ∷ [])
    ∷ reading (heads 16 ++ steps 3 ++ (call 11 0 0 ∷ call 3 0 4 ∷ [])) (extouts 0 (steps 2)) (0 ∷ 0 ∷ [])
    ∷ reading (heads 16 ++ steps 3 ++ (call 11 0 0 ∷ call 11 0 0 ∷ call 3 0 4 ∷ [])) (extouts 0 (steps 2)) (1 ∷ 0 ∷ [])
    -- request 2: the gate closes in the step of the button, and in the step in which the watchdog expires
    ∷ reading (gate 0x02000030 ++ steps 3 ++ (button ∷ pressed ∷ [])) (count 0) (3 ∷ [])
    ∷ reading (gate 0x02000030 ++ (call 25 0 4 ∷ call 26 0 1 ∷ call 22 0 4 ∷ []) ++ steps 4) (count 0) (3 ∷ [])
    -- call 24 with the button held, then released
    ∷ reading (gate 0x02000030 ++ (button ∷ pressed ∷ call 24 0 0 ∷ pressed ∷ [])) (count 0) (0 ∷ [])
    ∷ reading (gate 0x02000030 ++ (button ∷ pressed ∷ call 24 0 0 ∷ lines 0 0 ∷ [])) (count 0) (1 ∷ [])
    -- the edge is captured in the step of the button
    ∷ reading (gate 0x30 ++ (call 5 0 32 ∷ []) ++ steps 3 ++ (button ∷ pressed ∷ [])) (answer (call 11 0 0)) (0 ∷ 4 ∷ 0 ∷ 32 ∷ [])
    -- request 3: with intervals 2, 1 and 1 the stages expire in steps 2, 3 and 4
    ∷ reading (staged 2 1 1 ++ steps 1) status_read (told 8) ∷ reading (staged 2 1 1 ++ steps 2) status_read (told 10)
    ∷ reading (staged 2 1 1 ++ steps 3) status_read (told 26) ∷ reading (staged 2 1 1 ++ steps 4) status_read (told 58)
    -- with 1, 3 and 2 in steps 1, 4 and 6
    ∷ reading (staged 1 3 2 ++ steps 3) status_read (told 10) ∷ reading (staged 1 3 2 ++ steps 4) status_read (told 26)
    ∷ reading (staged 1 3 2 ++ steps 5) status_read (told 26) ∷ reading (staged 1 3 2 ++ steps 6) status_read (told 58)
    -- a kick begins all three again
    ∷ reading (staged 2 1 1 ++ steps 3 ++ (call 27 0 0 ∷ [])) status_read (told 8)
    ∷ reading (staged 2 1 1 ++ steps 3 ++ (call 27 0 0 ∷ []) ++ steps 3) status_read (told 26)
    -- disabled between stages 1 and 2, which keeps what has expired; enabled again
    ∷ reading (staged 2 1 1 ++ steps 3 ++ (call 26 0 0 ∷ []) ++ steps 5) status_read (told 18)
    ∷ reading (staged 2 1 1 ++ steps 3 ++ (call 26 0 0 ∷ call 26 0 1 ∷ []) ++ steps 3) status_read (told 26)
    -- the selector, and an enabled watchdog
    ∷ reading [] (answer (register 25 0 3 5)) (3 ∷ 0 ∷ 0 ∷ 0 ∷ []) ∷ reading [] (answer (register 25 0 2 5)) (0 ∷ 0 ∷ 0 ∷ 0 ∷ [])
    ∷ reading [] (answer (register 25 0 1 0)) (3 ∷ 0 ∷ 0 ∷ 0 ∷ []) ∷ reading (staged 2 1 1) (answer (register 25 0 2 5)) (7 ∷ 0 ∷ 0 ∷ 0 ∷ [])
    -- request 5: a value of 2, a value of 1, and pin 48, with SWE 0
    ∷ reading [] (answers (call 15 0 2 ∷ call 15 0 1 ∷ call 15 48 1 ∷ [])) (results (3 ∷ 12 ∷ 1 ∷ []))
    -- the four safe writes with SWE 0, 1, and 0 again; the other pin and virtual output calls with SWE 0
    ∷ reading [] safe_writes (results (12 ∷ 12 ∷ 12 ∷ 12 ∷ [])) ∷ reading (call 23 0 1 ∷ []) safe_writes (results (0 ∷ 0 ∷ 0 ∷ 0 ∷ []))
    ∷ reading (call 23 0 1 ∷ call 23 0 0 ∷ []) safe_writes (results (12 ∷ 12 ∷ 12 ∷ 12 ∷ []))
    ∷ reading [] (answers (call 13 0 1 ∷ call 14 0 1 ∷ call 17 0 0 ∷ call 18 0 0 ∷ call 21 0 0 ∷ [])) (results (0 ∷ 0 ∷ 0 ∷ 0 ∷ 0 ∷ []))
    -- what was answered 12 is not written
    ∷ reading safe_pin (answer (call 17 0 0)) (told 0) ∷ reading (call 23 0 1 ∷ safe_pin) (answer (call 17 0 0)) (told 1)
    -- request 6: a filter of 2, a filter of 0 and none, a filter of 1 up and down
    ∷ filtering 2 (1 ∷ 1 ∷ 0 ∷ 1 ∷ 1 ∷ 1 ∷ []) (0 ∷ 0 ∷ 0 ∷ 0 ∷ 0 ∷ 1 ∷ [])
    ∷ filtering 0 (1 ∷ 0 ∷ 1 ∷ []) (1 ∷ 0 ∷ 1 ∷ []) ∷ reading [] (levels 5 (fed (1 ∷ 0 ∷ 1 ∷ []))) (1 ∷ 0 ∷ 1 ∷ [])
    ∷ filtering 1 (1 ∷ 1 ∷ 0 ∷ 1 ∷ 0 ∷ 0 ∷ []) (0 ∷ 1 ∷ 1 ∷ 1 ∷ 1 ∷ 0 ∷ [])
    -- a write of the filter that stands begins the wait afresh, one that is refused does not, and one of 0 keeps the level until the next step
    ∷ reading (call 30 5 1 ∷ fed (1 ∷ [])) (levels 5 (call 30 5 1 ∷ fed (1 ∷ 1 ∷ []))) (0 ∷ 0 ∷ 1 ∷ [])
    ∷ reading (call 30 5 1 ∷ fed (1 ∷ [])) (levels 5 (call 30 5 65536 ∷ fed (1 ∷ []))) (0 ∷ 1 ∷ [])
    ∷ reading (call 30 5 3 ∷ fed (1 ∷ [])) (levels 5 (call 30 5 0 ∷ fed (1 ∷ []))) (0 ∷ 1 ∷ [])
    -- the greatest filter and one above; pin 48; a selector; kind 31
    ∷ reading [] (answers (call 30 47 65535 ∷ call 30 47 65536 ∷ call 30 48 0 ∷ register 30 0 1 0 ∷ call 31 0 0 ∷ [])) (results (0 ∷ 3 ∷ 1 ∷ 3 ∷ 2 ∷ []))
    -- a pin that drives itself up in step 1 has raw level 1 from step 2 on
    ∷ reading (call 14 5 1 ∷ call 30 5 1 ∷ []) (levels 5 (steps 4)) (0 ∷ 0 ∷ 1 ∷ 1 ∷ [])
    -- the button has to be pressed for two steps in a row
    ∷ reading (call 30 47 1 ∷ button ∷ pressed ∷ lines 0 0 ∷ pressed ∷ []) status_read (told 0)
    ∷ reading (call 30 47 1 ∷ button ∷ pressed ∷ lines 0 0 ∷ pressed ∷ pressed ∷ []) status_read (told 1)
    -- a channel that counts while pin 5 is up, with a filter of 2
    ∷ reading (call 30 5 2 ∷ call 1 0 0x02000030 ∷ call 4 0 5 ∷ call 6 0 0 ∷ fed (1 ∷ 1 ∷ 1 ∷ 1 ∷ [])) (count 0) (2 ∷ [])
    ∷ []
