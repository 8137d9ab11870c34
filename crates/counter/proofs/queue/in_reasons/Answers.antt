-- `counter::queue::in_reasons` meets its contract.
-- Assumes nothing.
use Rattle.std.proofs.Common.{get_or, rules}
use Rattle.words.specs.Range.{or_reset, all_or_reset}
use Rattle.words.proofs.Arrays.{from_fn_is}
use Rattle.counter.specs.Repair.{is_reasons}
use Rattle.counter.proofs.queue.in_reasons.Goals as goal

pub returns : goal.returns
unfolding all_or_reset
returns c = from_fn_is _ (λ i. or_reset is_reasons 0 (get_or c.args.a i 0)) 0 c.from_fn.ensures.items (λ k y q called. search rules)
