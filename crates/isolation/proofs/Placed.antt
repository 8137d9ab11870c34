-- The channels, the pins and the virtual outputs of a board are stores: what a call puts in one place stands there alone.
-- Assumes nothing.
use mathlib.Core.Path.{◌≡◌, refl}
use mathlib.Core.List.{List}
use lib.ListN.{length, set}
use lib.Seq.{get_or-set_same, get_or-set_other}
use Rattle.words.proofs.BitLaws.{bit-there, bit-elsewhere}
use Rattle.counter.specs.Repair.{no_channel}
use Rattle.counter.specs.declared.Channel.{Channel}
use Rattle.ports.specs.Pins.{whole_at, put_whole}
use Rattle.ports.specs.Virtuals.{virtual_at, put_virtual}
use Rattle.ports.specs.declared.Pins.{Pins}
use Rattle.ports.specs.declared.Virtuals.{Virtuals}
use Rattle.ports.proofs.Wholes.{stored_whole, whole-there, whole-elsewhere}
use Rattle.board.specs.Inputs.{channel_in}
use Rattle.isolation.proofs.Stores.{Placing}

-- ---- channels: a list

pub channels-placed : (cs : List Channel) → length cs ≡ 6 → Placing 6 channel_in (λ i x l. set l i x) (λ x. x) cs
channels-placed cs s = record {
  there = λ i x h. get_or-set_same cs i x no_channel (rw s h);
  elsewhere = λ i j x h d. get_or-set_other cs i j x no_channel d;
}

-- ---- pins and virtual outputs: words

pub pins-placed : (x : Pins) → Placing 48 whole_at put_whole stored_whole x
pins-placed x = record { there = λ i q. whole-there x i q; elsewhere = λ i j q. whole-elsewhere x i q j }

pub virtuals-placed : (x : Virtuals) → Placing 6 virtual_at put_virtual (λ q. q) x
unfolding virtual_at put_virtual
virtuals-placed x = record {
  there = λ i q h. simp bit-there refl;
  elsewhere = λ i j q h d. simp bit-elsewhere refl;
}
