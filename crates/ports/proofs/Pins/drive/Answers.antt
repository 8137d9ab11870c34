-- `ports::Pins::drive` meets its contract.
-- Assumes nothing.
use mathlib.Core.Path.{ap}
use Rattle.words.proofs.BitLaws.{word-ext, bit_word}
use Rattle.ports.specs.Setters.{with_driven}
use Rattle.ports.specs.Pins.{driven, pin_at}
use Rattle.ports.proofs.Pins.drive.Goals as goal

pub returns : goal.returns
unfolding driven pin_at
returns c =
    rw (c.guarded.ensures, c.sources-base.ensures)
    (ap (λ w. with_driven w c.args.self) (word-ext 48 _ _ (λ i h. simp bit_word)))
