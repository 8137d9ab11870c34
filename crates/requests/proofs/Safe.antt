-- Request 2: what a channel takes from a virtual output goes by the safemode in which the step ends.
-- Assumes nothing.
use mathlib.Core.Path.{◌≡◌, refl, ◌∙◌, ap, subst}
use mathlib.Core.Bool.{Bool, true, false, not, cond, ◌&&◌, beq}
use Prim.Native.Nat.{ℕ, ◌+◌, ◌-◌, ◌*◌, ◌/◌, ◌%◌, ◌^◌, ◌<◌}
use native.Mathlib.Omega.{arith}
use lib.IntN.{ℤ, pos}
use borrow.Author.Tests.{eq-eqb, ne_eqb, lt-ltb, le-ltb}
use Rattle.words.specs.Bits.{bit, some}
use Rattle.words.proofs.BitLaws.{flag-lt, bit_word}
use Rattle.words.proofs.Cases.{either}
use Rattle.words.proofs.Tables.{get_or-tab}
use Rattle.counter.specs.Mode.{XS, IM, IP}
use Rattle.counter.specs.Samples.{samples, extin}
use Rattle.counter.specs.Advance.{Inputs, armed_by_edge, look, counted, asked, loaded, next_of, settled, step, advance}
use Rattle.counter.specs.Repair.{no_channel}
use Rattle.counter.specs.declared.Channel.{Channel}
use Rattle.counter.specs.declared.Seen.{Seen}
use Rattle.ports.specs.Pins.{driven}
use Rattle.ports.specs.declared.Virtual.{Virtual}
use Rattle.ports.specs.Virtuals.{virtual_at, virtual_level, virtual_levels, routed}
use Rattle.board.specs.Inputs.{channel_in, neighbour, index_of, samples_of, inputs_of, channel_next, all_next}
use Rattle.board.specs.Step.{scene_of, scene_in, step_with, stepped}
use Rattle.board.specs.Handed.{repaired_board}
use Rattle.board.specs.declared.Scene.{Scene}
use Rattle.board.specs.declared.Board.{Board}
use Rattle.requests.specs.Steps.{InSteps}
use Rattle.requests.specs.Safe.{Takes, Unpreloaded, Still, Routed, OnRoutes, Request2}
use Rattle.requests.proofs.Steps.{in-steps, in-steps-handed}

-- ---- the ExtIn sample

extin-of : (a b x e : Bool) → extin (samples a b x e) ≡ e
extin-of a b x true = eq-eqb (samples a b x true / 2 ^ 3 % 2) 1 (omega (arith, flag-lt a, flag-lt b, flag-lt x))
extin-of a b x false = ne_eqb (samples a b x false / 2 ^ 3 % 2) 1 (λ h. omega (arith, flag-lt a, flag-lt b, flag-lt x))

-- a route of 48 + o leads to virtual output o
routed-virtual : (levels virtuals o : ℕ) → o < 6 → routed levels virtuals (48 + o) ≡ bit virtuals o
unfolding routed
routed-virtual levels virtuals o k =
    let place : 48 + o - 48 ≡ o = omega arith in
    rw (le-ltb (48 + o) 48 (omega arith), lt-ltb (48 + o) 54 (omega arith), place)

sample-of : (s : Scene) (c mode route : ℕ) → extin (samples_of s c mode route) ≡ not (beq (routed s.levels s.virtuals route) (IP mode))
unfolding samples_of
sample-of s c mode route =
    let index : Bool = index_of (XS mode) (bit s.lines (3 * c + 2)) s.outs s.ticks in
    extin-of (bit s.lines (3 * c)) (bit s.lines (3 * c + 1)) index _

-- a channel of a board in a step, by its route
module _ (b : Board) (v w c : ℕ) (k : c < 6) where
  abbrev pub me : Channel
  me = channel_in b.channels c

  abbrev pub after : Board
  after = stepped v w b

  abbrev pub next : Channel
  next = channel_in after.channels c

  -- what the channels see in the step
  abbrev scene : Scene
  scene = scene_in v after.pins after.core b

  pub takes-routed : Takes (routed after.pins.level (virtual_levels after.core.safety.safemode b.virtuals) me.route) me next
  unfolding stepped step_with all_next channel_next inputs_of scene_of driven
  takes-routed = record {
    taken = inputs_of scene c (channel_in b.channels (neighbour c)).carry me;
    sample = sample-of scene c me.mode me.route;
    next = get_or-tab 6 _ c no_channel k;
  }

-- ---- a channel whose ExtIn is 0 and gates it

-- where no event preloads
not-asked : (c : Channel) → Unpreloaded c → (reasons : ℕ) (high : Bool) → asked c.mode reasons high ≡ false
unfolding asked some
not-asked c u reasons high =
    rw (u 0 (omega arith), u 1 (omega arith), u 2 (omega arith), u 3 (omega arith), u 4 (omega arith), u 5 (omega arith))

module _ (c : Channel) (i : Inputs) (im : IM c.mode ≡ 1) (low : extin i.now ≡ false) where
  no-count : (look i.now i.carried i.rises c).d ≡ pos 0
  unfolding look
  no-count =
      either (λ (s : Seen). s.d ≡ pos 0) c.running (rw (im, low) (gate (armed_by_edge c.mode c.armed c.kept i.now) _)) refl
    where
      gate : (t : Bool) (d : ℤ) → cond (t && false) d (pos 0) ≡ pos 0
      gate true d = refl
      gate false d = refl

  still : Still c (advance i c)
  unfolding advance step settled next_of counted loaded
  still = record { carry = rw no-count; count = λ u. rw (not-asked c u, no-count) }

-- a level that IP turns into 0
closes : {level : Bool} {c next : Channel} → IM c.mode ≡ 1 → level ≡ IP c.mode → Takes level c next → Still c next
closes {c = c} im p t = rw t.next (still c t.taken im (t.sample ∙ rw p (ended (IP c.mode))))
  where
    ended : (t : Bool) → not (beq t t) ≡ false
    ended true = refl
    ended false = refl

-- ---- a channel of a board, routed to a virtual output

module _ (b : Board) (v w c o : ℕ) (k : c < 6) (h : o < 6) (r : (channel_in b.channels c).route ≡ 48 + o) where
  abbrev q : Virtual
  q = virtual_at b.virtuals o

  abbrev safemode : Bool
  safemode = (after b v w c k).core.safety.safemode

  takes : Takes (virtual_level safemode q) (me b v w c k) (next b v w c k)
  unfolding virtual_levels
  takes =
      let level = ap (routed _ _) r ∙ routed-virtual (after b v w c k).pins.level (virtual_levels safemode b.virtuals) o h ∙ bit_word 6 _ o h in
      subst (λ t. Takes t (me b v w c k) (next b v w c k)) level (takes-routed b v w c k)

  takes-safe : safemode ≡ true → q.safeenable ≡ true → Takes q.safedata (me b v w c k) (next b v w c k)
  takes-safe s e = rw (s, e) at takes

  on-route : Routed safemode q (me b v w c k) (next b v w c k)
  on-route = record { level = takes; safe = takes-safe; gated = λ s e im p. closes im p (takes-safe s e) }

pub request2 : Request2
request2 =
    let boards : (b : Board) → InSteps OnRoutes b = λ b. in-steps OnRoutes b (λ v w c o k h r. on-route b v w c o k h r) in
    record { boards = boards; handed = λ b. in-steps-handed OnRoutes b (boards (repaired_board b)) }
