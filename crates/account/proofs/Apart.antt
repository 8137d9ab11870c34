-- The written lists, computed on the definition of the machine and on the machines that the claim rules out.
-- Assumes nothing.
use mathlib.Core.Path.{◌≡◌, refl, subst}
use mathlib.Core.List.{List, ◌++◌}
use Prim.Native.Nat.{ℕ, ◌^◌, ◌<◌}
use native.Mathlib.Omega.{arith}
use Rattle.words.specs.Bits.{bit, word, some}
use Rattle.words.specs.Table.{tab}
use Rattle.counter.specs.Advance.{edge_reasons, look, counted, masked, asked, loaded, next_of, settled, step, advance}
use Rattle.counter.specs.Difference.{clocked, errs}
use Rattle.counter.specs.Preload.{preloaded, started}
use Rattle.counter.specs.Queue.{captured, popped}
use Rattle.counter.specs.Repair.{reset_channel}
use Rattle.filters.specs.Planes.{number_at, planes}
use Rattle.filters.specs.Filters.{followed, filtering_at, filtered, reset_filters}
use Rattle.ports.specs.Pins.{pin_at, raw_level, sensed, driven, reset_pins}
use Rattle.ports.specs.Virtuals.{virtual_at, virtual_levels, reset_virtuals, routed}
use Rattle.control.specs.Clock.{advanced, ticks}
use Rattle.control.specs.Safety.{guarded}
use Rattle.control.specs.Watchdog.{rests_after, expired_after, watched_in, watched}
use Rattle.control.specs.Whole.{reset_core}
use Rattle.calls.specs.ChannelCalls.{mode_write, register_write, snapshot_read, channel_call}
use Rattle.calls.specs.Fields.{step_fits, limits, limit, selectors, fits}
use Rattle.calls.specs.declared.Reply.{Reply}
use Rattle.calls.specs.declared.Event.{Event}
use Rattle.board.specs.Handed.{reset_board}
use Rattle.board.specs.Inputs.{extouts, index_of, samples_of, inputs_of, channel_next, all_next}
use Rattle.board.specs.Respond.{refusal_in, refusal_by, passed_by, called_by, respond_with, respond}
use Rattle.board.specs.Runs.{finish}
use Rattle.board.specs.Step.{scene_of, core_next, step_with, stepped}
use Rattle.board.specs.declared.Board.{Board}
use Rattle.account.specs.Counts.{scene_at, inputs_at, reasons_in, is_caught, captures, makes, made, handed, reported, total}
use Rattle.account.specs.Accounts.{balance}
use Rattle.account.specs.Claim.{accounted_for}
use Rattle.account.specs.Apart.{numbers, snapshots, reads, Computed, forgetting, belittling, repeating, Refuting, RuledOut}
use Rattle.account.specs.declared.Balance.{Balance}

pub computed : Computed
unfolding bit word some tab edge_reasons look counted masked asked loaded next_of settled step advance clocked errs preloaded started captured popped reset_channel number_at planes followed filtering_at filtered reset_filters pin_at raw_level sensed driven reset_pins virtual_at virtual_levels reset_virtuals routed advanced ticks guarded rests_after expired_after watched_in watched reset_core mode_write register_write snapshot_read channel_call step_fits limits limit selectors fits reset_board extouts index_of samples_of inputs_of channel_next all_next refusal_in refusal_by passed_by called_by respond_with respond finish scene_of core_next step_with stepped scene_at inputs_at reasons_in is_caught captures makes made handed reported total balance
computed = record {
  unread = refl;
  told = refl;
  read = refl;
  other = refl;
  both = refl;
  rising = refl;
  unmasked = refl;
  soft_alone = refl;
  halted = refl;
  together = refl;
  apart = refl;
  lost_match = refl;
  refused = refl;
}

-- an account that does not add up, with few captures
refuting : (machine : Board → Event → Reply Board) (es : List Event) (n : Balance)
    → balance machine reset_board es 2 ≡ n → n.made < 2 ^ 32 → (n.made ≡ accounted_for n → ⊥) → Refuting machine es n
refuting machine es n p few wrong = (
  p,
  λ claim. wrong (subst (λ (x : Balance). x.made < 2 ^ 32 → x.made ≡ accounted_for x) p (claim es 2 (omega arith)) few),
)

pub ruled_out : RuledOut
unfolding bit word some tab edge_reasons look counted captured popped reset_channel reset_filters reset_pins reset_virtuals reset_core snapshot_read channel_call step_fits limits limit selectors fits reset_board refusal_in refusal_by passed_by called_by respond_with respond finish captures makes made handed reported total balance forgetting belittling repeating
ruled_out = record {
  forgets = refuting forgetting (snapshots ++ reads 2 1) (numbers 17 1 15 0 0) refl (omega arith) (λ (h : ◌≡◌ {A = ℕ} 17 16). omega (arith, h));
  belittles = refuting belittling (snapshots ++ reads 2 1) (numbers 17 0 16 0 0) refl (omega arith) (λ (h : ◌≡◌ {A = ℕ} 17 16). omega (arith, h));
  repeats = refuting repeating (snapshots ++ reads 2 2) (numbers 17 1 16 1 0) refl (omega arith) (λ (h : ◌≡◌ {A = ℕ} 17 18). omega (arith, h));
}
