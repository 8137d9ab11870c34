-- The written lists, computed on the definition of the machine.
-- Assumes nothing.
use mathlib.Core.Path.{◌≡◌, refl, sym, ap, ◌∙◌}
use mathlib.Core.Bool.{true≢false}
use mathlib.Core.List.{List, [], ◌∷◌}
use lib.Dec.{eqb}
use lib.ListN.{get_or}
use Rattle.calls.specs.Reply.{number}
use Rattle.calls.specs.declared.Reply.{Reply}
use Rattle.calls.specs.declared.Event.{Event}
use Rattle.calls.specs.declared.Answer.{Answer}
use Rattle.words.specs.Bits.{bit, word, some, every}
use Rattle.words.specs.Table.{tab}
use Rattle.counter.specs.Advance.{edge_reasons, look, counted as counted_on, masked, asked, loaded, next_of, settled, step, advance}
use Rattle.counter.specs.Difference.{clocked, errs}
use Rattle.counter.specs.Preload.{preloaded, started}
use Rattle.counter.specs.Queue.{captured, popped}
use Rattle.words.specs.Range.{all_or_reset}
use Rattle.counter.specs.Repair.{reset_channel, repaired}
use Rattle.filters.specs.Planes.{number_at, planes}
use Rattle.filters.specs.Filters.{followed, filtering_at, filtered, put_filter, reset_filters}
use Rattle.ports.specs.Pins.{pin_at, put_pin, whole_at, put_whole, raw_level, sensed, driven, reset_pins, repaired_words, repaired_sources, repaired_pins}
use Rattle.ports.specs.Virtuals.{virtual_at, put_virtual, virtual_levels, reset_virtuals, routed, repaired_virtuals}
use Rattle.control.specs.Clock.{advanced, ticks, repaired_clock}
use Rattle.control.specs.Safety.{guarded, repaired_safety}
use Rattle.control.specs.Watchdog.{rests_after, expired_after, watched_in, watched, kicked, with_interval, switched, repaired_watchdog}
use Rattle.control.specs.Whole.{reset_core, repaired_core}
use Rattle.calls.specs.BoardCalls.{interval_write, board_call}
use Rattle.calls.specs.ChannelCalls.{mode_write, register_write, route_write, snapshot_read, channel_call}
use Rattle.calls.specs.Fields.{step_fits, limits, limit, selectors, fits}
use Rattle.calls.specs.PinCalls.{pin_call, whole_call}
use Rattle.calls.specs.VirtualCalls.{virtual_call}
use Rattle.board.specs.Handed.{reset_board, repaired_board, lost_cleared, kept, applied}
use Rattle.board.specs.Inputs.{extouts, index_of, samples_of, inputs_of, channel_next, all_next}
use Rattle.board.specs.Respond.{refusal_in, refusal_by, passed_by, called_by, respond_with, respond}
use Rattle.board.specs.Runs.{finish, remainder}
use Rattle.board.specs.Step.{scene_of, core_next, step_with, stepped}
use Rattle.board.specs.declared.Board.{Board}
use Rattle.isolation.specs.Lists.{kept_answers}
use Rattle.isolation.specs.Members.{Members}
use Rattle.isolation.specs.Settings.{untold, latest, told}
use Rattle.isolation.specs.Remainder.{on_outsider, struck, cleared, shown}
use Rattle.isolation.specs.Claim.{Isolation}
use Rattle.isolation.specs.Tests.{clauses, all, without, after_each}
use Rattle.isolation.specs.Examples.{among, group, setup, neighbours, trial, shared, sole, given, members}
use Rattle.isolation.specs.Apart.{Computed, ending, Refuting, quorum, spilling, overflowing, still, counted, uncounted, RuledOut}
use Rattle.isolation.proofs.Tests.{decided}

pub computed : Computed
unfolding bit word some every tab edge_reasons look counted_on masked asked loaded next_of settled step advance clocked errs preloaded started captured popped reset_channel number_at planes followed filtering_at filtered put_filter reset_filters pin_at put_pin whole_at put_whole raw_level sensed driven reset_pins virtual_at put_virtual virtual_levels reset_virtuals routed advanced ticks guarded rests_after expired_after watched_in watched kicked with_interval switched reset_core interval_write board_call mode_write register_write route_write snapshot_read channel_call step_fits limits limit selectors fits pin_call whole_call virtual_call reset_board extouts index_of samples_of inputs_of channel_next all_next refusal_in refusal_by passed_by called_by respond_with respond finish scene_of core_next step_with stepped all_or_reset repaired repaired_words repaired_sources repaired_pins repaired_virtuals repaired_clock repaired_safety repaired_watchdog repaired_core repaired_board lost_cleared kept applied remainder kept_answers untold latest told on_outsider struck cleared shown clauses all without after_each among group setup neighbours trial shared sole given quorum spilling
computed = record {
  alike = record {
    longer = refl;
    closed = ((decided applied group shared).0 refl, (decided applied group sole).0 refl);
    alike = refl;
    answers = (refl, refl);
  };
  needed = record {
    carrying = record { others = (refl, refl); apart = record { alike = refl; answers = (refl, refl) } };
    indexing = record { others = (refl, refl); apart = record { alike = refl; answers = (refl, refl) } };
    routed_pin = record { others = (refl, refl); apart = record { alike = refl; answers = (refl, refl) } };
    routed_virtual = record { others = (refl, refl); apart = record { alike = refl; answers = (refl, refl) } };
    driving = record { others = (refl, refl); apart = record { alike = refl; answers = (refl, refl) } };
    triggering = record { others = (refl, refl); apart = record { alike = refl; answers = (refl, refl) } };
  };
  refuted = record {
    quorums = record { closed = (refl, refl); apart = record { alike = refl; answers = (refl, refl) } };
    spills = record { closed = (refl, refl); apart = record { alike = refl; answers = (refl, refl) } };
  };
  wording = record {
    board_calls = (refl, refl);
    refusals = (refl, refl);
    safe_writes = (refl, refl);
    filters = (refl, refl);
    halted = refl;
    once = refl;
    itself = refl;
    line_a = refl;
    level_at_end = (refl, refl);
  };
}

-- a machine on which such lists are answered differently does not satisfy the claim
refute : (machine : Board → Event → Reply Board) (M : Members) (es fs : List Event) {xs ys : List Answer} → Refuting machine M es fs xs ys
    → (xs ≡ ys → ⊥) → Isolation machine → ⊥
refute machine M es fs r differ claim =
    let same = claim M es fs ((decided machine M es).0 r.closed.0) ((decided machine M fs).0 r.closed.1) r.apart.alike in
    differ (sym r.apart.answers.0 ∙ same.answers ∙ r.apart.answers.1)

-- the fourth answers' values are 0 and 1
differing : ending 3 0 ≡ ending 3 1 → ⊥
differing p = true≢false (ap (λ xs. eqb (get_or xs 3 (number 0 0)).value 0) p)

pub ruled_out : RuledOut
ruled_out = record {
  quorums = refute quorum (members (0 ∷ []) [] []) overflowing still computed.refuted.quorums differing;
  spills = refute spilling (members (1 ∷ []) [] []) counted uncounted computed.refuted.spills differing;
}
