-- Demand 2 on every board in range, and on every list of events from reset.
-- Assumes nothing.
use mathlib.Core.Path.{◌≡◌, refl, ap, ◌∙◌}
use mathlib.Core.Bool.{true}
use mathlib.Core.List.{List, [], ◌∷◌}
use Rattle.words.specs.Bits.{bit, word, every}
use Rattle.words.specs.Range.{all_good}
use Rattle.counter.specs.Repair.{reset_channel, channel_in_range}
use Rattle.filters.specs.Filters.{reset_filters}
use Rattle.ports.specs.Pins.{pin_at, reset_pins, pins_in_range}
use Rattle.ports.specs.Virtuals.{reset_virtuals, virtuals_in_range}
use Rattle.control.specs.Watchdog.{watchdog_in_range}
use Rattle.control.specs.Whole.{core_in_range, reset_core}
use Rattle.calls.specs.declared.Event.{Event}
use Rattle.board.specs.Respond.{respond}
use Rattle.board.specs.Handed.{reset_board, in_range, applied}
use Rattle.board.specs.Runs.{finish, replies}
use Rattle.board.specs.declared.Board.{Board}
use Rattle.board.proofs.Same.{board-fields, board-whole, board-same}
use Rattle.reach.specs.Claim.{Every, Demand2}
use Rattle.reach.proofs.RangedBoard.{respond-sound}
use Rattle.reach.proofs.Entry.{entry-same}

-- ---- reset

pub reset-ranged : in_range reset_board ≡ true
unfolding in_range all_good channel_in_range pins_in_range virtuals_in_range watchdog_in_range core_in_range every word bit pin_at reset_board reset_channel reset_pins reset_filters reset_virtuals reset_core
reset-ranged = refl

-- ---- lists of events

stays : (b : Board) → in_range b ≡ true → (e : Event) → in_range (respond b e).state ≡ true
stays b r e = board-whole (respond b e).state (respond-sound b (board-fields b r) e).ranged

same : (b : Board) → in_range b ≡ true → (es : List Event) → replies applied b es ≡ replies respond b es
unfolding replies
same b r [] = refl
same b r (e ∷ es) =
    ap (λ x. x ∷ replies applied x.state es) (entry-same b r e) ∙ ap (λ xs. respond b e ∷ xs) (same (respond b e).state (stays b r e) es)

same-last : (b : Board) → in_range b ≡ true → (es : List Event) → finish applied b es ≡ finish respond b es
unfolding finish
same-last b r [] = refl
same-last b r (e ∷ es) =
    ap (λ x. finish applied x.state es) (entry-same b r e) ∙ same-last (respond b e).state (stays b r e) es

ranged : (b : Board) → in_range b ≡ true → (es : List Event) → Every (λ x. in_range x.state ≡ true) (replies respond b es)
unfolding replies
ranged b r [] = tt
ranged b r (e ∷ es) = (stays b r e, ranged (respond b e).state (stays b r e) es)

last : (b : Board) → in_range b ≡ true → (es : List Event) → in_range (finish respond b es) ≡ true
unfolding finish
last b r [] = r
last b r (e ∷ es) = last (respond b e).state (stays b r e) es

pub demand2 : Demand2
demand2 = (
  λ b r. record { alone = board-same b r; entry = entry-same b r; stays = stays b r },
  λ es. record {
    same = same reset_board reset-ranged es;
    same_last = same-last reset_board reset-ranged es;
    ranged = ranged reset_board reset-ranged es;
    last = last reset_board reset-ranged es;
  },
)
