-- `ports::Pins::repair` meets its contract.
-- Assumes nothing.
use Rattle.ports.specs.Pins.{pin_at, reset_pins, repaired_words, repaired_sources, repaired_pins}
use Rattle.ports.proofs.Pins.repair.Goals as goal

pub returns : goal.returns
unfolding repaired_pins repaired_sources repaired_words reset_pins pin_at
returns c =
    rw (c.pin_words-2.ensures, c.pin_words.ensures, c.mended-3.ensures, c.mended-2.ensures, c.mended.ensures, c.pin_word-5.ensures, c.all.ensures, c.pin_word-4.ensures, c.pin_word-3.ensures, c.pin_word-2.ensures, c.pin_word.ensures, c.pin_word-s2.ensures, c.pin_word-s1.ensures, c.pin_word-s0.ensures)
