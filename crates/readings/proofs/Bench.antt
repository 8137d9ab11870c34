-- Every row of the table of readings, computed on the definition of the machine.
-- Assumes nothing.
use mathlib.Core.Path.{◌≡◌, refl}
use mathlib.Core.List.{map}
use Rattle.words.specs.Bits.{bit, word, some}
use Rattle.words.specs.Table.{tab}
use Rattle.counter.specs.Advance.{edge_reasons, look, counted, masked, asked, loaded, next_of, settled, step, advance}
use Rattle.counter.specs.Difference.{clocked, errs}
use Rattle.counter.specs.Preload.{preloaded, started}
use Rattle.counter.specs.Queue.{captured, popped}
use Rattle.counter.specs.Repair.{reset_channel}
use Rattle.filters.specs.Planes.{number_at, planes}
use Rattle.filters.specs.Filters.{followed, filtering_at, filtered, put_filter, reset_filters}
use Rattle.ports.specs.Pins.{pin_at, put_pin, whole_at, put_whole, raw_level, sensed, driven, reset_pins}
use Rattle.ports.specs.Virtuals.{virtual_at, put_virtual, virtual_levels, reset_virtuals, routed}
use Rattle.control.specs.Clock.{advanced, ticks}
use Rattle.control.specs.Safety.{guarded}
use Rattle.control.specs.Watchdog.{rests_after, expired_after, watched_in, watched, kicked, with_interval, switched}
use Rattle.control.specs.Whole.{reset_core}
use Rattle.calls.specs.BoardCalls.{interval_write, board_call}
use Rattle.calls.specs.ChannelCalls.{mode_write, register_write, route_write, snapshot_read, channel_call}
use Rattle.calls.specs.Fields.{step_fits, limits, limit, selectors, fits}
use Rattle.calls.specs.PinCalls.{pin_call, whole_call}
use Rattle.calls.specs.VirtualCalls.{virtual_call}
use Rattle.board.specs.Handed.{reset_board}
use Rattle.board.specs.Inputs.{extouts, index_of, samples_of, inputs_of, channel_next, all_next}
use Rattle.board.specs.Respond.{refusal_in, refusal_by, passed_by, called_by, respond_with, respond}
use Rattle.board.specs.Runs.{finish, replies}
use Rattle.board.specs.Step.{scene_of, core_next, step_with, stepped}
use Rattle.readings.specs.Readings.{steps, traced, fed, of_each, answers_in, seen, read, delay, cascade, turn, error, seventeen, entries, pulses, heads, gate, staged, safe_pin, filtering, table}

pub readings : map read table ≡ map (λ r. r.numbers) table
unfolding bit word some tab edge_reasons look counted masked asked loaded next_of settled step advance clocked errs preloaded started captured popped reset_channel number_at planes followed filtering_at filtered put_filter reset_filters pin_at put_pin whole_at put_whole raw_level sensed driven reset_pins virtual_at put_virtual virtual_levels reset_virtuals routed advanced ticks guarded rests_after expired_after watched_in watched kicked with_interval switched reset_core interval_write board_call mode_write register_write route_write snapshot_read channel_call step_fits limits limit selectors fits pin_call whole_call virtual_call reset_board extouts index_of samples_of inputs_of channel_next all_next refusal_in refusal_by passed_by called_by respond_with respond finish replies scene_of core_next step_with stepped steps traced fed of_each answers_in seen read delay cascade turn error seventeen entries pulses heads gate staged safe_pin filtering table
readings = refl
