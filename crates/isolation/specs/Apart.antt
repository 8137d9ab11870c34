-- Alike lists that are answered differently: for each clause of closed members two that break it alone; and two with closed members on machines
-- that the claim rules out.
-- Assumes nothing.
use Rattle.std.specs.Prelude.{◌≡◌, true, not, cond, ◌&&◌, List, [], ◌∷◌, ◌++◌, ℕ, ◌+◌, ◌%◌, ◌^◌, eqb, ltb, set, replicate}
use Rattle.words.specs.Bits.{every}
use Rattle.counter.specs.Setters.{with_load}
use Rattle.counter.specs.declared.Channel.{Channel}
use Rattle.calls.specs.Reply.{reply, number}
use Rattle.calls.specs.declared.Reply.{Reply}
use Rattle.calls.specs.Events.{call, lines}
use Rattle.calls.specs.declared.Event.{Event}
use Rattle.calls.specs.declared.Answer.{Answer}
use Rattle.board.specs.Inputs.{channel_in}
use Rattle.board.specs.Respond.{with_channels}
use Rattle.board.specs.Handed.{applied}
use Rattle.board.specs.declared.Board.{Board}
use Rattle.isolation.specs.Members.{Members}
use Rattle.isolation.specs.Claim.{Alike, answers_of, Isolation}
use Rattle.isolation.specs.Tests.{is_closed_throughout, is_closed_but}
use Rattle.isolation.specs.Examples.{members, group, shared, sole, given, Example, Wording}

-- ---- lists that are told apart

-- two alike lists that the machine answers xs and ys
pub record Apart (machine : Board → Event → Reply Board) (M : Members) (es fs : List Event) (xs ys : List Answer) : Type 0 where
  pub alike : Alike machine M es fs
  pub answers : (answers_of machine M es ≡ xs) × (answers_of machine M fs ≡ ys)

-- they keep the other clauses, clause k being the one in place k of the tests: clause k is needed
pub record Needed (k : ℕ) (M : Members) (es fs : List Event) (xs ys : List Answer) : Type 0 where
  pub others : (is_closed_but applied M k es ≡ true) × (is_closed_but applied M k fs ≡ true)
  pub apart : Apart applied M es fs xs ys

-- they keep all clauses: the claim is false of the machine
pub record Refuting (machine : Board → Event → Reply Board) (M : Members) (es fs : List Event) (xs ys : List Answer) : Type 0 where
  pub closed : (is_closed_throughout machine M es ≡ true) × (is_closed_throughout machine M fs ≡ true)
  pub apart : Apart machine M es fs xs ys

-- n events answered 0 with value 0, then one with value v
abbrev pub ending : ℕ → ℕ → List Answer
ending n v = replicate n (number 0 0) ++ (number 0 v ∷ [])

-- channel 0 started by a mode that counts every step while ExtIn is high, by the route r
abbrev pub gated : ℕ → List Event
gated r = call 1 0 0x02000030 ∷ call 4 0 r ∷ call 6 0 0 ∷ []

-- ---- every clause is needed

pub record EachNeeded : Type 0 where
  -- channel 1 counts the carries of channel 0, which wraps in one list
  pub carrying : Needed 0 (members (1 ∷ []) [] [])
      (call 1 0 0x30 ∷ call 2 0 4294967295 ∷ call 9 0 0 ∷ call 6 0 0 ∷ call 1 1 0x40 ∷ call 6 1 0 ∷ lines 0 0 ∷ lines 0 0 ∷ call 10 1 0 ∷ [])
      (call 1 1 0x40 ∷ call 6 1 0 ∷ lines 0 0 ∷ lines 0 0 ∷ call 10 1 0 ∷ [])
      (ending 4 1) (ending 4 0)
  -- channel 1 is armed by its index, ExtOut of channel 0, which is inverted in one list
  pub indexing : Needed 1 (members (1 ∷ []) [] [])
      (call 1 0 0x00020000 ∷ call 1 1 0x232 ∷ call 6 1 0 ∷ lines 0 0 ∷ lines 0 0 ∷ call 10 1 0 ∷ [])
      (call 1 1 0x232 ∷ call 6 1 0 ∷ lines 0 0 ∷ lines 0 0 ∷ call 10 1 0 ∷ [])
      (ending 4 1) (ending 4 0)
  -- channel 0 counts while pin 3 is high, as it is in one list
  pub routed_pin : Needed 2 (members (0 ∷ []) [] [])
      (gated 3 ++ (lines 0 (2 ^ 3) ∷ call 10 0 0 ∷ [])) (gated 3 ++ (lines 0 0 ∷ call 10 0 0 ∷ []))
      (ending 4 1) (ending 4 0)
  -- channel 0 counts while virtual output 0 is high, as it is in one list
  pub routed_virtual : Needed 3 (members (0 ∷ []) [] [])
      (gated 48 ++ (call 18 0 1 ∷ lines 0 0 ∷ call 10 0 0 ∷ [])) (gated 48 ++ (lines 0 0 ∷ call 10 0 0 ∷ []))
      (ending 4 1) (ending 4 0)
  -- pin 0 shows ExtOut of channel 0, which is inverted in one list
  pub driving : Needed 4 (members [] (0 ∷ []) [])
      (call 13 0 1 ∷ call 1 0 0x00020000 ∷ lines 0 0 ∷ lines 0 0 ∷ call 17 0 0 ∷ []) (call 13 0 1 ∷ lines 0 0 ∷ lines 0 0 ∷ call 17 0 0 ∷ [])
      (ending 3 1) (ending 3 0)
  -- pin 47 sets safemode, as it does in one list
  pub triggering : Needed 5 (members [] [] [])
      (call 22 0 3 ∷ lines 0 (2 ^ 47) ∷ call 29 0 0 ∷ []) (call 22 0 3 ∷ lines 0 0 ∷ call 29 0 0 ∷ [])
      (ending 2 1) (ending 2 0)

-- ---- machines that the claim rules out

-- a quorum of six: a step is answered and changes nothing while some channel has lost captures
unfoldable pub quorum : Board → Event → Reply Board
quorum b e =
    cond (eqb e.kind 0 && not (every 6 (λ c. eqb (channel_in b.channels c).lost 0))) (reply b (applied b e).answer) (applied b e)

-- a call on a channel puts the count of the channel after it to 0
unfoldable pub spilling : Board → Event → Reply Board
spilling b e =
    let r : Reply Board = applied b e in
    let n : ℕ = (e.member + 1) % 6 in
    let after : Channel = channel_in r.state.channels n in
    cond (ltb 0 e.kind && ltb e.kind 13)
    (reply (with_channels (set r.state.channels n (with_load 0 after.second after.armed after)) r.state) r.answer)
    r

-- what follows a start of channel c, which counts every step
abbrev pub counting : ℕ → List Event → List Event
counting c es = call 1 c 0x30 ∷ call 6 c 0 ∷ es

-- channel 0, and the queue of channel 1 that overflows in one list
abbrev pub overflowing : List Event
overflowing = counting 0 (replicate 17 (call 8 1 0) ++ (lines 0 0 ∷ call 10 0 0 ∷ []))

abbrev pub still : List Event
still = counting 0 (lines 0 0 ∷ call 10 0 0 ∷ [])

-- channel 1, and a count of channel 0 that is read in one list
abbrev pub counted : List Event
counted = counting 1 (lines 0 0 ∷ call 10 0 0 ∷ call 10 1 0 ∷ [])

abbrev pub uncounted : List Event
uncounted = counting 1 (lines 0 0 ∷ call 10 1 0 ∷ [])

pub record Refuted : Type 0 where
  pub quorums : Refuting quorum (members (0 ∷ []) [] []) overflowing still (ending 3 0) (ending 3 1)
  pub spills : Refuting spilling (members (1 ∷ []) [] []) counted uncounted (ending 3 0) (ending 3 1)

pub record RuledOut : Type 0 where
  pub quorums : Isolation quorum → ⊥
  pub spills : Isolation spilling → ⊥

-- ---- all that is computed

pub record Computed : Type 0 where
  pub alike : Example group shared sole given
  pub needed : EachNeeded
  pub refuted : Refuted
  pub wording : Wording
