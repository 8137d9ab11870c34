-- `counter::Channel::count_on` meets its contract.
-- Assumes nothing.
use Rattle.std.proofs.Common.{◌≡◌, ℕ, zero, suc, true, false, not, ◌&&◌, ◌||◌, eqb, get_or, ℤ, pos, negsuc, sym, refl, ap, ◌∙◌, arith, w32, to_z, of_z, lt-ltb}
use mathlib.Core.Bool.{and-true}
use lib.Bits.{bit_or, or_zero_l}
use Rattle.words.specs.Bits.{flags}
use Rattle.counter.specs.declared.Seen.{Seen}
use Rattle.counter.specs.declared.Channel.{Channel}
use Rattle.counter.specs.Mode.{TD}
use Rattle.counter.specs.Difference.{is_up, is_down, moved, carry_of}
use Rattle.counter.specs.Advance.{counted}
use Rattle.counter.proofs.Signed.{back}
use Rattle.counter.proofs.Channel.count_on.Goals as goal

-- a difference that is not 0 counts up or down
moving : (d : ℤ) → (d ≡ pos 0 → ⊥) → (is_up d || is_down d) ≡ true
moving (pos zero) h = absurd (h refl)
moving (pos (suc n)) h = rw (lt-ltb 0 (suc n) (omega arith))
moving (negsuc n) h = refl

module _ (s : Seen) (c : Channel) where
  rests : s.d ≡ pos 0 → record { count = c.count; reasons = s.reasons; carry = pos 0; armed = s.armed } ≡ counted s c
  unfolding counted
  rests z = rw (z, or_zero_l s.reasons, and-true s.armed)

  moves :
      (s.d ≡ pos 0 → ⊥) →
      let n : ℕ = moved c.count s.d in
      record {
        count = n;
        reasons = bit_or (flags (eqb n (get_or c.compares 0 0)) (eqb n (get_or c.compares 1 0)) (eqb n 0) false) s.reasons;
        carry = carry_of c.count s.d;
        armed = s.armed && not (eqb n 0 && eqb (TD c.mode) 2);
      }
      ≡ counted s c
  unfolding counted
  moves h = rw (moving s.d h)

pub returns-then-d-eq0 : goal.returns-then-d-eq0
returns-then-d-eq0 c = let a = c.args in
    rests a.s a.self (sym (back a.s.d c.struct_told-1.given.0.1) ∙ ap (to_z w32) c.if-d-eq0.true)

pub returns : goal.returns
returns c = let a = c.args in
    let z = back a.s.d c.struct_told-1.given.0.1 in
    let o = c.carry_of in
    rw (back o.result o.type_inv, o.ensures, c.td.ensures, c.flags.ensures.is, c.moved-n.ensures, z)
    (moves a.s a.self (λ e. c.if-d-eq0.false (ap (of_z w32) e)))
