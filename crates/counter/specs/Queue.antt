-- Document 01, "A queue holds sixteen captures": a capture, which tells whether its entry was stored (request 1), and its reading by call 11.
-- Assumes nothing.
use Rattle.std.specs.Prelude.{ℕ, suc, ◌+◌, ◌-◌, ◌^◌, true, false, cond, List, [], ◌∷◌, ◌++◌, nat_lt, slice_index, slice_set}
use Rattle.words.specs.Table.{tab}
use Rattle.counter.specs.Setters.{with_queue, with_lost}
use Rattle.counter.specs.declared.Channel.{Channel}
use Rattle.counter.specs.declared.Capture.{Capture}

-- one capture more of a count, a timestamp and reasons; with sixteen held it is not stored but lost, and the lost count goes up, staying at 2^32 − 1
unfoldable pub captured : ℕ → ℕ → ℕ → Channel → Capture
captured n t r c =
    cond (nat_lt c.held 16)
    (record {
      channel = with_queue (slice_set c.counts c.held n) (slice_set c.timestamps c.held t) (slice_set c.reasons c.held r) (c.held + 1) c;
      stored = true;
    })
    (record { channel = with_lost (cond (nat_lt c.lost (2 ^ 32 - 1)) (c.lost + 1) c.lost) c; stored = false })

-- a queue's array without its first element: the others move up, and a 0 comes in at the end
abbrev pub shifted : List ℕ → List ℕ
shifted l = tab 15 (λ i. slice_index l (suc i)) ++ (0 ∷ [])

-- the oldest entry leaves
unfoldable pub popped : Channel → Channel
popped c = with_queue (shifted c.counts) (shifted c.timestamps) (shifted c.reasons) (c.held - 1) c
