-- Demand 3: two alike lists give closed members equal answers and leave them equal.
-- Assumes nothing.
use mathlib.Core.Path.{◌≡◌, ap, subst, subst⁻¹}
use mathlib.Core.Bool.{true, false}
use Rattle.counter.specs.declared.Channel.{Channel}
use Rattle.ports.specs.Pins.{WholePin}
use Rattle.ports.specs.Virtuals.{virtual_level}
use Rattle.ports.specs.declared.Virtual.{Virtual}
use Rattle.calls.specs.declared.Reply.{Reply}
use Rattle.calls.specs.declared.Event.{Event}
use Rattle.board.specs.Respond.{respond}
use Rattle.board.specs.Handed.{reset_board, applied}
use Rattle.board.specs.declared.Board.{Board}
use Rattle.board.proofs.Same.{InRange, board-fields, board-whole}
use Rattle.reach.proofs.Reach.{reset-ranged, demand2}
use Rattle.isolation.specs.Members.{Members}
use Rattle.isolation.specs.Settings.{Settings, untold, told}
use Rattle.isolation.specs.Closed.{Closed}
use Rattle.isolation.specs.Remainder.{struck, shown}
use Rattle.isolation.specs.Same.{entries, SameMembers}
use Rattle.isolation.specs.Claim.{Demand3, Undisturbed}
use Rattle.isolation.proofs.TwoRuns.{Follows, alone, two_runs}
use Rattle.isolation.proofs.Seen.{Seen, seen-itself, seen-by-both}
use Rattle.isolation.proofs.Told.{Told}
use Rattle.isolation.proofs.Tells.{told-at-reset, respond-tells}
use Rattle.isolation.proofs.Events.{respond-kept, respond-gone}

-- ---- one event on the machine of the entry point, which on boards in range is the machine of the paper

-- a board after a list that told t
record Reached (t : Settings) (b : Board) : Type 0 where
  settings : Told t b
  ranged : InRange b

-- two boards that a list and its remainder reach
record Beside (M : Members) (x y : Board) : Type 0 where
  seen : Seen M x y
  left : InRange x
  right : InRange y

entry : (b : Board) → InRange b → (e : Event) → applied b e ≡ respond b e
entry b r = (demand2.0 b (board-whole b r)).entry

stays : (b : Board) → InRange b → (e : Event) → InRange (respond b e).state
stays b r e = board-fields (respond b e).state ((demand2.0 b (board-whole b r)).stays e)

reached : (t : Settings) (b : Board) (e : Event) → Reached t b → Reached (told t e (applied b e).answer) (applied b e).state
reached t b e r =
    subst⁻¹ (λ (x : Reply Board). Reached (told t e x.answer) x.state) (entry b r.ranged e)
    (record { settings = respond-tells t b e r.settings r.ranged; ranged = stays b r.ranged e })

module _ (M : Members) where
  kept : (t : Settings) (b h : Board) (e : Event) → Reached t b → Closed M (told t e (applied b e).answer) → Beside M b h
      → struck M e (applied b e).answer ≡ false → Follows (Beside M) (applied b e) (applied h (shown M e))
  kept t b h e r closed v s =
      let p = entry b v.left e in
      let q = entry h v.right (shown M e) in
      let f = respond-kept M t b h r.settings v.seen v.left v.right e
      (subst (λ (x : Reply Board). Closed M (told t e x.answer)) p closed) (subst (λ (x : Reply Board). struck M e x.answer ≡ false) p s) in
      subst⁻¹ (λ x. Follows (Beside M) x (applied h (shown M e))) p
      (subst⁻¹ (λ x. Follows (Beside M) (respond b e) x) q
      (record { answer = f.answer; state = record { seen = f.state; left = stays b v.left e; right = stays h v.right (shown M e) } }))

  gone : (b h : Board) (e : Event) → Beside M b h → struck M e (applied b e).answer ≡ true → Beside M (applied b e).state h
  gone b h e v s =
      let p = entry b v.left e in
      subst⁻¹ (λ (x : Reply Board). Beside M x.state h) p
      (record {
        seen = respond-gone M b h v.seen v.left e (subst (λ (x : Reply Board). struck M e x.answer ≡ true) p s);
        left = stays b v.left e;
        right = v.right;
      })

  both : (x y z : Board) → Beside M x z → Beside M y z → Beside M x y
  both x y z a b = record { seen = seen-by-both M x y z a.seen b.seen; left = a.left; right = b.left }

  -- ---- what is equal at the end

  same-members : (x y : Board) → Seen M x y → SameMembers M x y
  unfolding entries
  same-members x y s = record {
    channels = λ c k m.
        let q = s.channels c k m in
        record {
          count = ap (λ (z : Channel). z.count) q;
          queue = ap entries q;
          lost = ap (λ (z : Channel). z.lost) q;
          extout = ap (λ (z : Channel). z.extout) q;
        };
    pins = λ p k m.
        let q = s.pins p k m in
        record {
          level = ap (λ (z : WholePin). z.pin.level) q;
          driven = ap (λ (z : WholePin). z.pin.driven) q;
          filter = ap (λ (z : WholePin). z.filter) q;
          wait = ap (λ (z : WholePin). z.wait) q;
        };
    virtuals = λ o k m.
        let q = s.virtuals o k m in
        record {
          own = ap (λ (z : Virtual). z.own) q;
          safedata = ap (λ (z : Virtual). z.safedata) q;
          safeenable = ap (λ (z : Virtual). z.safeenable) q;
          level = λ i. virtual_level (s.core i).safety.safemode (q i);
        };
  }

-- the boards at reset
in-range : InRange reset_board
in-range = board-fields reset_board reset-ranged

at-reset : (M : Members) → Beside M reset_board reset_board
at-reset M = record { seen = seen-itself M reset_board; left = in-range; right = in-range }

pub undisturbed : Undisturbed
undisturbed M es closed =
    let p = alone applied (struck M) (shown M) told (Closed M) Reached (Beside M) reached (kept M) (gone M)
    untold reset_board reset_board es (record { settings = told-at-reset; ranged = in-range }) closed (at-reset M) in
    record { answers = p.answered; members = same-members M _ _ p.ended.seen }

pub demand3 : Demand3
demand3 M es fs c₁ c₂ alike =
    let p = two_runs applied (struck M) (shown M) told (Closed M) Reached (Beside M) reached (kept M) (gone M)
    untold reset_board es fs (record { settings = told-at-reset; ranged = in-range }) (at-reset M) c₁ c₂ (both M) alike in
    record { answers = p.0; members = same-members M _ _ p.1.seen }
