-- One event on two boards that look alike to the members: one that stays in the remainder is answered alike and leaves them alike; one that is
-- struck out leaves the first board as it looked.
-- Assumes nothing.
use mathlib.Core.Path.{◌≡◌, refl, ap, sym, ◌∙◌, subst, subst⁻¹}
use mathlib.Core.Bool.{Bool, true, false, ◌&&◌, ◌||◌, and-eq-true_iff, true≢false, false≢true}
use Prim.Native.Nat.{ℕ, ◌<◌, ◌/◌, ◌^◌}
use lib.Dec.{eqb, ltb}
use borrow.Author.Tests.{lt-ltb, eqb-true, not-true, not-false}
use Rattle.words.proofs.Cases.{paired, neither}
use Rattle.words.proofs.BitLaws.{word_lt}
use Rattle.counter.specs.declared.Channel.{Channel}
use Rattle.ports.specs.Pins.{WholePin, whole_at}
use Rattle.ports.specs.Virtuals.{virtual_at}
use Rattle.ports.specs.declared.Virtual.{Virtual}
use Rattle.control.specs.declared.Core.{Core}
use Rattle.calls.specs.Reply.{refuse}
use Rattle.calls.specs.declared.Reply.{Reply}
use Rattle.calls.specs.Fields.{is_step, step_fits}
use Rattle.calls.specs.ChannelCalls.{channel_call}
use Rattle.calls.specs.PinCalls.{whole_call}
use Rattle.calls.specs.VirtualCalls.{virtual_call}
use Rattle.calls.specs.BoardCalls.{board_call}
use Rattle.calls.specs.declared.Event.{Event}
use Rattle.calls.specs.declared.Answer.{Answer}
use Rattle.board.specs.Inputs.{channel_in}
use Rattle.board.proofs.Checks.{named}
use Rattle.board.proofs.Classes.{other}
use Rattle.board.proofs.Steps.{of-step, of-call, of-refused-step}
use Rattle.board.specs.Respond.{class_of, refusal_in, refusal_by, checked, passed_by, called_by, respond}
use Rattle.board.specs.declared.Class.{Class}
use Rattle.board.specs.declared.Class.TheVariants.{Step, OnChannel, OnPin, OnVirtual, OnBoard, Unknown}
use Rattle.board.specs.declared.Board.{Board}
use Rattle.board.proofs.Same.{InRange}
use Rattle.reach.proofs.RangedBoard.{past-checks, respond-sound}
use Rattle.isolation.specs.Members.{Members}
use Rattle.isolation.specs.Settings.{Settings, told}
use Rattle.isolation.specs.Closed.{Closed}
use Rattle.isolation.specs.Remainder.{on_outsider, is_misaddressed, is_refused_step, struck, cleared, shown}
use Rattle.isolation.proofs.TwoRuns.{Follows}
use Rattle.isolation.proofs.Stores.{put_both, put-outside}
use Rattle.isolation.proofs.Placed.{channels-placed, pins-placed, virtuals-placed}
use Rattle.isolation.proofs.Seen.{Seen}
use Rattle.isolation.proofs.Told.{Told, settings-told}
use Rattle.isolation.proofs.Local.{kept-agree, step_same}
use Rattle.isolation.proofs.Tells.{class-of-step, step-quiet}

module _ (M : Members) (b h : Board) (seen : Seen M b h) (left : InRange b) (right : InRange h) (e : Event) where
  refused-alike : (n : ℕ) → Follows (Seen M) (refuse n b) (refuse n h)
  refused-alike n = record { answer = refl; state = seen }

  -- ---- a call that stays in the remainder

  -- SWE is the board's, and so the same on both
  within : (n : ℕ) (r q : Reply Board) → (e.member < n → Follows (Seen M) r q)
      → Follows (Seen M) (checked (refusal_in n b.core.safety.writes e) b r) (checked (refusal_in n h.core.safety.writes e) h q)
  within n r q s =
      subst (λ (k : Core). Follows (Seen M) (checked (refusal_in n b.core.safety.writes e) b r) (checked (refusal_in n k.safety.writes e) h q)) seen.core
      (paired (Follows (Seen M)) (eqb (refusal_in n b.core.safety.writes e) 0) (λ k. s (named n _ e (eqb-true _ _ k))) (λ _. refused-alike _))

  call_kept : (C : Class) → on_outsider M C e.member ≡ false → Follows (Seen M) (called_by C b e) (called_by C h e)
  unfolding called_by refusal_by passed_by on_outsider
  call_kept Step o = refused-alike 3
  call_kept OnChannel o = within 6 _ _ (λ k.
      let same : channel_call b.core.clock.timestamp e (channel_in b.channels e.member) ≡ channel_call h.core.clock.timestamp e (channel_in h.channels e.member) =
      λ i. channel_call (seen.core i).clock.timestamp e (seen.channels e.member k (not-false _ o) i) in
      record {
        answer = ap (λ (r : Reply Channel). r.answer) same;
        state = record {
          channels =
              put_both 6 channel_in M.is_channel b.channels h.channels seen.channels (channels-placed b.channels left.six)
              (channels-placed h.channels right.six) e.member _ _ (ap (λ (r : Reply Channel). r.state) same);
          pins = seen.pins;
          virtuals = seen.virtuals;
          core = seen.core;
        };
      })
  call_kept OnPin o = within 48 _ _ (λ k.
      let same : whole_call e (whole_at b.pins e.member) ≡ whole_call e (whole_at h.pins e.member) = ap (whole_call e) (seen.pins e.member k (not-false _ o)) in
      record {
        answer = ap (λ (r : Reply WholePin). r.answer) same;
        state = record {
          channels = seen.channels;
          pins =
              put_both 48 whole_at M.is_pin b.pins h.pins seen.pins (pins-placed b.pins) (pins-placed h.pins)
              e.member _ _ (ap (λ (r : Reply WholePin). r.state) same);
          virtuals = seen.virtuals;
          core = seen.core;
        };
      })
  call_kept OnVirtual o = within 6 _ _ (λ k.
      let same : virtual_call e (virtual_at b.virtuals e.member) ≡ virtual_call e (virtual_at h.virtuals e.member) =
      ap (virtual_call e) (seen.virtuals e.member k (not-false _ o)) in
      record {
        answer = ap (λ (r : Reply Virtual). r.answer) same;
        state = record {
          channels = seen.channels;
          pins = seen.pins;
          virtuals =
              put_both 6 virtual_at M.is_virtual b.virtuals h.virtuals seen.virtuals (virtuals-placed b.virtuals) (virtuals-placed h.virtuals)
              e.member _ _ (ap (λ (r : Reply Virtual). r.state) same);
          core = seen.core;
        };
      })
  call_kept OnBoard o = within 1 _ _ (λ k. record {
    answer = ap (λ (x : Core). (board_call e x).answer) seen.core;
    state = record { channels = seen.channels; pins = seen.pins; virtuals = seen.virtuals; core = ap (λ (x : Core). (board_call e x).state) seen.core };
  })
  call_kept Unknown o = refused-alike 2

-- ---- a step that stays in the remainder

-- an accepted step is one too with the outsiders' bits put to 0
cleared-step : (M : Members) (e : Event) → is_step e ≡ true → is_step (cleared M e) ≡ true
unfolding step_fits cleared
cleared-step M e s =
    let k = (and-eq-true_iff (eqb e.kind 0) _).0 s in
    let w = (and-eq-true_iff _ (ltb e.w (2 ^ 48))).0 k.1 in
    let v = (and-eq-true_iff (eqb e.member 0 && eqb e.selector 0 && eqb e.spare 0) (ltb e.v (2 ^ 18))).0 w.0 in
    let lines = lt-ltb (cleared M e).v (2 ^ 18) (word_lt 18 _) in
    let levels = lt-ltb (cleared M e).w (2 ^ 48) (word_lt 48 _) in
    rw (k.0, v.0, lines, levels)

-- a step that is not accepted is refused
refused-step : (b : Board) (e : Event) → is_step e ≡ false → eqb e.kind 0 ≡ true → is_refused_step e (respond b e).answer ≡ true
refused-step b e u k = rw (of-refused-step b e u (eqb-true e.kind 0 k), k)

-- ---- any event that stays in the remainder

module _ (M : Members) (t : Settings) (b h : Board) (m : Told t b) (seen : Seen M b h) (left : InRange b) (right : InRange h) (e : Event) where
  pub respond-kept : Closed M (told t e (respond b e).answer) → struck M e (respond b e).answer ≡ false
      → Follows (Seen M) (respond b e) (respond h (shown M e))
  unfolding struck shown cleared
  respond-kept closed s = go (is_step e) refl (eqb e.kind 0) refl
    where
      a : Answer
      a = (respond b e).answer

      parts : ((on_outsider M (class_of e.kind) e.member || is_misaddressed a) ≡ false) × (is_refused_step e a ≡ false)
      parts = neither (on_outsider M (class_of e.kind) e.member || is_misaddressed a) (is_refused_step e a) s

      go : (u : Bool) → is_step e ≡ u → (z : Bool) → eqb e.kind 0 ≡ z → Follows (Seen M) (respond b e) (respond h (shown M e))
      go true u z k =
          let same : Told (told t e a) b = step-quiet e a t b b (class-of-step e u) m (settings-told b) in
          let zero : eqb e.kind 0 ≡ true = ((and-eq-true_iff (eqb e.kind 0) _).0 u).0 in
          rw (zero, of-step b e u, of-step h (cleared M e) (cleared-step M e u)) (record {
            answer = refl;
            state = step_same M (told t e a) closed b h same seen e.v e.w _ _ (kept-agree 18 (λ i. M.is_channel (i / 3)) e.v) (kept-agree 48 M.is_pin e.w);
          })
      go false u true k = absurd (true≢false (sym (refused-step b e u k) ∙ parts.1))
      go false u false k =
          rw (k, of-call b e u, of-call h e u)
          (call_kept M b h seen left right e (class_of e.kind) (neither _ (is_misaddressed a) parts.0).0)

-- ---- an event that is struck out

-- the reply leaves the members as they look on h
record Unseen (M : Members) (h : Board) (r : Reply Board) : Type 0 where
  state : Seen M r.state h

-- answered 1 or 2 is answered neither 0 nor 6
misaddressed : (n : ℕ) → (eqb n 1 || eqb n 2) ≡ true → (eqb n 0 ≡ false) × (eqb n 6 ≡ false)
misaddressed n h = go (eqb n 1) refl
  where
    go : (u : Bool) → eqb n 1 ≡ u → (eqb n 0 ≡ false) × (eqb n 6 ≡ false)
    go true z = (other n 1 0 z refl, other n 1 6 z refl)
    go false z = let two : eqb n 2 ≡ true = rw z at h in (other n 2 0 two refl, other n 2 6 two refl)

module _ (M : Members) (b h : Board) (seen : Seen M b h) (left : InRange b) (e : Event) where
  passed : (n : ℕ) (r : Reply Board) → Unseen M h r → Unseen M h (checked (refusal_in n b.core.safety.writes e) b r)
  passed n r s = past-checks (Unseen M h) n _ e b r (λ _ _ _. record { state = seen }) (λ _ _. s)

  -- a call on an outsider
  call-gone : (C : Class) → on_outsider M C e.member ≡ true → Unseen M h (called_by C b e)
  unfolding called_by refusal_by passed_by on_outsider
  call-gone Step o = absurd (false≢true o)
  call-gone OnChannel o = passed 6 _ (record {
    state = record {
      channels = put-outside 6 channel_in M.is_channel b.channels h.channels seen.channels (channels-placed b.channels left.six) e.member _ (not-true _ o);
      pins = seen.pins;
      virtuals = seen.virtuals;
      core = seen.core;
    };
  })
  call-gone OnPin o = passed 48 _ (record {
    state = record {
      channels = seen.channels;
      pins = put-outside 48 whole_at M.is_pin b.pins h.pins seen.pins (pins-placed b.pins) e.member _ (not-true _ o);
      virtuals = seen.virtuals;
      core = seen.core;
    };
  })
  call-gone OnVirtual o = passed 6 _ (record {
    state = record {
      channels = seen.channels;
      pins = seen.pins;
      virtuals = put-outside 6 virtual_at M.is_virtual b.virtuals h.virtuals seen.virtuals (virtuals-placed b.virtuals) e.member _ (not-true _ o);
      core = seen.core;
    };
  })
  call-gone OnBoard o = absurd (false≢true o)
  call-gone Unknown o = absurd (false≢true o)

  -- a call on an outsider is no step
  no_step : (u : Bool) → is_step e ≡ u → on_outsider M (class_of e.kind) e.member ≡ true → is_step e ≡ false
  unfolding on_outsider
  no_step true u o = absurd (false≢true (rw (class-of-step e u) at o))
  no_step false u o = u

  -- a refused step
  step_gone : (u : Bool) → is_step e ≡ u → is_refused_step e (respond b e).answer ≡ true → Seen M (respond b e).state h
  step_gone true u r = absurd (false≢true (rw (of-step b e u) at ((and-eq-true_iff (eqb e.kind 0) _).0 r).1))
  step_gone false u r = rw (of-refused-step b e u (eqb-true e.kind 0 ((and-eq-true_iff (eqb e.kind 0) _).0 r).0)) seen

  pub respond-gone : struck M e (respond b e).answer ≡ true → Seen M (respond b e).state h
  unfolding struck
  respond-gone s = go (on_outsider M C e.member) refl (is_misaddressed a) refl
    where
      C : Class
      C = class_of e.kind

      a : Answer
      a = (respond b e).answer

      go : (u : Bool) → on_outsider M C e.member ≡ u → (w : Bool) → is_misaddressed a ≡ w → Seen M (respond b e).state h
      go true o w n = rw (of-call b e (no_step (is_step e) refl o)) (call-gone C o).state
      go false o true n =
          let r = misaddressed a.result n in
          subst⁻¹ (λ x. Seen M x h) ((respond-sound b left e).refused r.0 r.1) seen
      go false o false n = step_gone (is_step e) refl (rw (o, n) at s)
