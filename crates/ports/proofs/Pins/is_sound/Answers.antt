-- `ports::Pins::is_sound` meets its contract.
-- Assumes nothing.
use mathlib.Core.Path.{◌∙◌}
use Prim.Native.Nat.{◌^◌}
use borrow.Author.Rules.{rules}
use Rattle.words.proofs.Arrays.{all-below}
use Rattle.ports.specs.Pins.{pins_in_range}
use Rattle.ports.proofs.Same.{all-sources}
use Rattle.ports.proofs.Pins.is_sound.Goals as goal

pub returns : goal.returns
unfolding pins_in_range
returns c =
    let x = c.args.self in
    let f = x.filters in
    let filter = c.are_below.ensures ∙ all-below (2 ^ 48) 16 f.filter (search rules) in
    let wait = c.are_below-2.ensures ∙ all-below (2 ^ 48) 16 f.wait (search rules) in
    rw (wait, filter, c.both-2.ensures, all-sources x c.both.result c.both.ensures)
