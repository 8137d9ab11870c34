-- `control::Watchdog::is_sound` meets its contract.
-- Assumes nothing.
use Rattle.std.proofs.Common.{◌≡◌, ◌∙◌, rules}
use borrow.Author.Tests.{tests}
use Rattle.std.proofs.lemmas.Iterator.{YieldsList-from_slice}
use Rattle.std.proofs.lemmas.Iterator.Search.{all_from_yields_List}
use Rattle.words.specs.Range.{all_good}
use Rattle.words.proofs.Arrays.{all_is}
use Rattle.control.specs.Watchdog.{is_interval, watchdog_in_range}
use Rattle.control.proofs.Watchdog.is_sound.Goals as goal

pub returns : goal.returns
unfolding watchdog_in_range
returns c =
    let intervals = c.args.self.intervals in
    let all : c.all.result ≡ all_good is_interval 3 intervals =
    all_from_yields_List is_interval _ _ c.all.result c.all.ensures.ran (YieldsList-from_slice intervals cc) (λ x b q k. search (rules, tests)) ∙ all_is is_interval 3 intervals (search rules) in
    rw all
