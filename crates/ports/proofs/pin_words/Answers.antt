-- `ports::pin_words` meets its contract.
-- Assumes nothing.
use borrow.Author.Rules.{rules}
use Rattle.words.specs.Range.{or_reset, all_or_reset}
use Rattle.words.proofs.Arrays.{map_is}
use Rattle.ports.specs.Pins.{is_pin_word}
use Rattle.ports.proofs.pin_words.Goals as goal

pub returns : goal.returns
unfolding all_or_reset
returns c = map_is _ (or_reset is_pin_word 0) 0 0 c.map.ensures.items (λ p x y q k. search rules)
