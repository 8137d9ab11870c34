-- Request 7: every event of the machine is booked, and so is every list.
-- Assumes nothing.
use mathlib.Core.Path.{◌≡◌, refl, sym, subst}
use mathlib.Core.Bool.{Bool, true, false, cond, ◌&&◌, and-false, or-false, and-eq-true_iff}
use mathlib.Core.List.{List, [], ◌∷◌}
use Prim.Native.Nat.{ℕ, ◌<◌}
use native.Mathlib.Decide.{ℕ_discrete}
use native.Mathlib.Omega.{arith}
use lib.Dec.{eqb}
use lib.ListN.{length, get_or-replicate}
use lib.Seq.{get_or-set_same, get_or-set_other}
use borrow.Author.Tests.{eqb-true, eq-eqb, ne_eqb}
use Rattle.words.specs.Bits.{flag}
use Rattle.words.proofs.Tables.{get_or-tab}
use Rattle.counter.specs.Repair.{reset_channel, no_channel}
use Rattle.counter.specs.declared.Channel.{Channel}
use Rattle.calls.specs.Fields.{is_step}
use Rattle.calls.specs.Reply.{refuse}
use Rattle.calls.specs.declared.Reply.{Reply}
use Rattle.calls.specs.declared.Event.{Event}
use Rattle.calls.specs.declared.Answer.{Answer}
use Rattle.board.specs.Inputs.{channel_in, channel_next, all_next}
use Rattle.board.specs.Step.{step_with, stepped}
use Rattle.board.specs.Respond.{class_of, refusal_by, passed_by, called_by, respond}
use Rattle.board.specs.Handed.{reset_board, in_range}
use Rattle.board.specs.Runs.{finish}
use Rattle.board.specs.declared.Board.{Board}
use Rattle.board.specs.declared.Class.{Class}
use Rattle.board.specs.declared.Class.TheVariants.{Step, OnChannel, OnPin, OnVirtual, OnBoard, Unknown}
use Rattle.board.proofs.Classes.{code, other-kind}
use Rattle.board.proofs.Same.{board-fields}
use Rattle.board.proofs.Steps.{of-step, of-call, step-answered}
use Rattle.reach.proofs.RangedBoard.{past-checks}
use Rattle.reach.proofs.Reach.{reset-ranged, demand2}
use Rattle.account.specs.Counts.{scene_at, inputs_at, captures, is_call, is_full, makes, made, handed, reported, unseen, total}
use Rattle.account.specs.Accounts.{balance}
use Rattle.account.specs.Claim.{Accounted, Whole, AtMost}
use Rattle.account.proofs.Booked.{Booked, same, still, joined, advance-booked}
use Rattle.account.proofs.Calls.{call-booked}

-- ---- what an event makes, by whether it is an accepted step

module _ (c : ℕ) (b : Board) (e : Event) where
  abbrev pub answer : Answer
  answer = (respond b e).answer

  pub step-makes : is_step e ≡ true → makes c b e answer ≡ captures (inputs_at e.v e.w b c) (channel_in b.channels c)
  unfolding makes
  step-makes s = rw (step-answered b e, s, eqb-true e.kind 0 ((and-eq-true_iff _ _).0 s).0, and-false (eqb e.member c))

  pub call-makes : is_step e ≡ false → makes c b e answer ≡ is_call 8 0 c e answer
  unfolding makes
  call-makes s = rw (step-answered b e, s, or-false (is_call 8 0 c e answer))

-- ---- one event

module _ (b : Board) (six : length b.channels ≡ 6) (e : Event) (c : ℕ) (inside : c < 6) where
  abbrev me : Channel
  me = channel_in b.channels c

  abbrev next : Reply Board → Channel
  next x = channel_in x.state.channels c

  -- a step
  of-stepped : Booked me (flag (captures (inputs_at e.v e.w b c) me)) 0 0 (flag (captures (inputs_at e.v e.w b c) me && is_full me))
      (channel_in (stepped e.v e.w b).channels c)
  unfolding stepped step_with all_next channel_next inputs_at scene_at
  of-stepped = rw (get_or-tab 6 _ c no_channel inside) (advance-booked me (inputs_at e.v e.w b c))

  -- a call, with the reply x
  abbrev Called : Reply Board → Type 0
  Called x =
      let u : Bool = is_call 8 0 c e x.answer in
      Booked me (flag u) (flag (is_call 11 0 c e x.answer)) (cond (is_call 11 6 c e x.answer) x.answer.value 0) (flag (u && is_full me)) (next x)

  -- refused
  refused : (m : ℕ) → eqb m 0 ≡ false → eqb m 6 ≡ false → Called (refuse m b)
  refused m h k = rw (h, k, and-false (eqb e.kind 8), and-false (eqb e.kind 11), and-false (eqb e.member c)) (still same)

  -- neither 8 nor 11, on another part of the board
  elsewhere : (C : Class) → class_of e.kind ≡ C → eqb (code C) 1 ≡ false → (x : Reply Board) → x.state.channels ≡ b.channels → Called x
  elsewhere C p d x s = rw (other-kind e.kind 8 C p d, other-kind e.kind 11 C p d, and-false (eqb e.member c), s) (still same)

  -- on a channel
  on-channel : e.member < 6 → Called (passed_by OnChannel b e)
  unfolding passed_by
  on-channel m = go (ℕ_discrete c e.member)
    where
      go : Dec (c ≡ e.member) → Called (passed_by OnChannel b e)
      go (yes p) =
          rw p
          (rw (eq-eqb e.member e.member refl, get_or-set_same b.channels e.member _ no_channel (omega (arith, six)))
          (call-booked (channel_in b.channels e.member) b.core.clock.timestamp e))
      go (no p) = rw (ne_eqb e.member c (λ q. p (sym q)), get_or-set_other b.channels e.member c _ no_channel p) (still same)

  by-class : (C : Class) → class_of e.kind ≡ C → Called (called_by C b e)
  unfolding called_by refusal_by passed_by
  by-class Step p = refused 3 refl refl
  by-class OnChannel p = past-checks Called 6 _ e b _ refused (λ m f. on-channel m)
  by-class OnPin p = past-checks Called 48 _ e b _ refused (λ m f. elsewhere OnPin p refl (passed_by OnPin b e) refl)
  by-class OnVirtual p = past-checks Called 6 _ e b _ refused (λ m f. elsewhere OnVirtual p refl (passed_by OnVirtual b e) refl)
  by-class OnBoard p = past-checks Called 1 _ e b _ refused (λ m f. elsewhere OnBoard p refl (passed_by OnBoard b e) refl)
  by-class Unknown p = refused 2 refl refl

  abbrev EventBooked : Type 0
  EventBooked =
      let a : Answer = (respond b e).answer in
      Booked me (made c b e a) (handed c b e a) (reported c b e a) (unseen c b e a) (next (respond b e))

  event-booked : EventBooked
  unfolding made handed reported unseen
  event-booked = go (is_step e) refl
    where
      go : (t : Bool) → is_step e ≡ t → EventBooked
      go true s =
          rw (step-makes c b e s, of-step b e s, eqb-true e.kind 0 ((and-eq-true_iff _ _).0 s).0, and-false (eqb e.member c)) of-stepped
      go false s = rw (call-makes c b e s) (subst Called (sym (of-call b e s)) (by-class (class_of e.kind) refl))

-- ---- a list

pub list-booked : (es : List Event) (b : Board) → in_range b ≡ true → (c : ℕ) → c < 6
    → Booked (channel_in b.channels c) (total respond (made c) b es) (total respond (handed c) b es) (total respond (reported c) b es)
    (total respond (unseen c) b es) (channel_in (finish respond b es).channels c)
unfolding total finish
list-booked [] b r c h = still same
list-booked (e ∷ es) b r c h =
    joined (event-booked b (board-fields b r).six e c h) (list-booked es (respond b e).state ((demand2.0 b r).stays e) c h)

-- ---- the claim

pub whole : (b : Board) → in_range b ≡ true → (es : List Event) (c : ℕ) → c < 6 → Whole b es c
unfolding balance
whole b r es c h =
    let t = list-booked es b r c h in
    record { exact = omega (arith, t.sum); none = t.none }

-- at reset nothing is held and nothing lost
nothing_yet : (c : ℕ) → c < 6 → ((channel_in reset_board.channels c).held ≡ 0) × ((channel_in reset_board.channels c).lost ≡ 0)
unfolding reset_board reset_channel
nothing_yet c h = rw (get_or-replicate 6 c reset_channel no_channel h) (refl, refl)

pub at-most : AtMost
at-most es c h = omega (arith, (whole reset_board reset-ranged es c h).exact, (nothing_yet c h).0, (nothing_yet c h).1)

pub accounted : Accounted respond
accounted es c h few =
    let w = whole reset_board reset-ranged es c h in
    omega (arith, w.exact, (nothing_yet c h).0, (nothing_yet c h).1, w.none (omega (arith, (nothing_yet c h).1)))
