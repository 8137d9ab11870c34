-- `counter::Channel::settle` meets its contract.
-- Assumes nothing.
use Rattle.std.proofs.Common.{◌≡◌, ℕ, Bool, ◌&&◌, ap, ◌∙◌, rules, eq-eqb, ne_eqb}
use Rattle.counter.specs.Setters.{with_step}
use Rattle.counter.specs.Queue.{captured}
use Rattle.counter.specs.Advance.{recorded, is_match, output, settled}
use Rattle.counter.specs.declared.Channel.{Channel}
use Rattle.counter.specs.declared.Capture.{Capture}
use Rattle.counter.specs.declared.Next.{Next}
use Rattle.counter.proofs.Settings.{recorded-same}
use Rattle.counter.proofs.Signed.{back}
use Rattle.counter.proofs.Channel.settle.Goals as goal
use Rattle.counter.proofs.Channel.settle.Goals.{then-n-ne0+then-told, then-n-ne0+else-told, else-n-ne0}

module _ (timestamp : ℕ) (n : Next) (c : Channel) where
  -- with a reason there is a capture
  captures : (n.caught ≡ 0 → ⊥) → captured n.seen timestamp n.caught c ≡ recorded timestamp n c
  captures h = rw (ne_eqb _ _ h)

  -- the record with what the capture told
  settles : (now : ℕ) (next : Channel) (pulse : Bool) → (next ≡ (recorded timestamp n c).channel) × (pulse ≡ ((recorded timestamp n c).stored && is_match n.caught))
      → with_step n.count n.carry n.armed n.second (output next.mode pulse n.second n.count) now next ≡ settled now timestamp n c
  unfolding settled
  settles now next pulse told = rw (told.0, told.1, (recorded-same c timestamp n).mode)

pub returns : goal.returns
returns c =
    let joined = c.if-n-ne0 in
    let a = c.args in
    let captured-is = captures a.timestamp a.n a.self in
    rw (c.output.ensures, back a.n.carry (search rules))
    (settles a.timestamp a.n a.self a.now joined.self joined.pulse
    (elim joined.branch [
      | then-n-ne0+then-told w ↦
          let t = w.capture-told.ensures ∙ captured-is w.if-n-ne0.true in
          (w.self-is ∙ ap (λ (x : Capture). x.channel) t, w.pulse-is ∙ rw (w.is_match-pulse.ensures, ← t, w.if-told.true))
      | then-n-ne0+else-told w ↦
          let t = w.capture-told.ensures ∙ captured-is w.if-n-ne0.true in
          (w.self-is ∙ ap (λ (x : Capture). x.channel) t, w.pulse-is ∙ rw (← t, w.if-told.false))
      | else-n-ne0 w ↦
          let z = eq-eqb a.n.caught 0 w.if-n-ne0.false in
          (w.self-is ∙ rw z, w.pulse-is ∙ rw z)
    ]))
