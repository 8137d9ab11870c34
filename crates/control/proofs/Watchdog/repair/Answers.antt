-- `control::Watchdog::repair` meets its contract.
-- Assumes nothing.
use Rattle.words.specs.Range.{or_reset, all_or_reset}
use Rattle.std.proofs.Common.{◌≡◌, ◌∙◌, rules}
use Rattle.words.proofs.Arrays.{map_is, below_is}
use Rattle.control.specs.Watchdog.{reset_interval, is_interval, repaired_watchdog}
use Rattle.control.proofs.Watchdog.repair.Goals as goal

pub returns : goal.returns
unfolding repaired_watchdog all_or_reset
returns c =
    let d = c.args.self in
    let intervals : c.map-self.result ≡ all_or_reset is_interval reset_interval 3 d.intervals =
    map_is _ (or_reset is_interval reset_interval) 0 0 c.map-self.ensures.items (λ p x y q k. search rules) in
    rw (c.below.ensures ∙ below_is 4 0 d.expired, intervals)
