-- A call of a virtual output keeps the outputs in range.
-- Assumes nothing.
use Prim.Native.Nat.{ℕ}
use lib.Dec.{eqb}
use Rattle.ports.specs.Virtuals.{put_virtual}
use Rattle.ports.specs.declared.Virtual.{Virtual}
use Rattle.ports.specs.declared.Virtuals.{Virtuals}
use Rattle.ports.proofs.Same.{VirtualsInRange, output-word}
use Rattle.calls.specs.VirtualCalls.{virtual_call}
use Rattle.calls.specs.declared.Event.{Event}
use Rattle.words.proofs.Cases.{either}
use Rattle.reach.proofs.Sound.{Sound, Never, done}

-- every record of one output is in range
pub virtual-sound : (e : Event) (o : Virtual) → Sound (λ y. Unit {0}) Never Never (virtual_call e o)
unfolding virtual_call
virtual-sound e o =
    let S = Sound (λ y. Unit {0}) Never Never in
    either S (eqb e.kind 18) (done tt) (either S (eqb e.kind 19) (done tt) (either S (eqb e.kind 20) (done tt) (done tt)))

pub put-virtual-ranged : (o : ℕ) (q : Virtual) (x : Virtuals) → VirtualsInRange (put_virtual o q x)
unfolding put_virtual
put-virtual-ranged o q x = record { own = output-word _; safedata = output-word _; safeenable = output-word _ }
