-- Laws of the latest accepted call, and of a setting that the calls on one store's records tell.
-- Assumes nothing.
use mathlib.Core.Path.{◌≡◌, refl, ap, sym, ◌∙◌}
use mathlib.Core.Bool.{Bool, true, false, cond, ◌&&◌}
use Prim.Native.Nat.{ℕ, ◌<◌}
use native.Mathlib.Decide.{ℕ_discrete}
use lib.Dec.{eqb}
use borrow.Author.Tests.{eq-eqb, ne_eqb}
use Rattle.calls.specs.declared.Reply.{Reply}
use Rattle.calls.specs.declared.Event.{Event}
use Rattle.calls.specs.declared.Answer.{Answer}
use Rattle.isolation.specs.Settings.{latest}
use Rattle.isolation.proofs.Stores.{Placing}
use Rattle.isolation.proofs.Sets.{set_by}

module _ (k i : ℕ) (e : Event) (a : Answer) (old : ℕ) where
  pub of-another-kind : eqb e.kind k ≡ false → latest k i e a old ≡ old
  unfolding latest
  of-another-kind h = rw h refl

  of-another-member : eqb e.member i ≡ false → latest k i e a old ≡ old
  unfolding latest
  of-another-member h = rw h (go (eqb e.kind k))
    where
      go : (t : Bool) → cond (t && false && eqb a.result 0) e.v old ≡ old
      go true = refl
      go false = refl

  pub not-accepted : eqb a.result 0 ≡ false → latest k i e a old ≡ old
  unfolding latest
  not-accepted h = rw h (go (eqb e.kind k) (eqb e.member i))
    where
      go : (t u : Bool) → cond (t && u && false) e.v old ≡ old
      go true true = refl
      go true false = refl
      go false u = refl

  pub on-it : eqb e.member i ≡ true → latest k i e a old ≡ set_by (eqb e.kind k) a e.v old
  unfolding latest
  on-it h = rw h (go (eqb e.kind k))
    where
      go : (t : Bool) → cond (t && true && eqb a.result 0) e.v old ≡ cond (t && eqb a.result 0) e.v old
      go true = refl
      go false = refl

-- g is the setting of a record, which call k sets on the record of its member; `old` is what was told of each
module _ {S X : Type 0} (n : ℕ) (at : S → ℕ → X) {put : ℕ → X → S → S} {stored : X → X} (s : S) (p : Placing n at put stored s)
    (g : X → ℕ) (k : ℕ) (e : Event) (r : Reply X) (old : ℕ → ℕ) where
  pub put-told : e.member < n → g (stored r.state) ≡ set_by (eqb e.kind k) r.answer e.v (g (at s e.member))
      → ((i : ℕ) → i < n → g (at s i) ≡ old i)
      → (i : ℕ) → i < n → g (at (put e.member r.state s) i) ≡ latest k i e r.answer (old i)
  put-told inside sets before i h = go (ℕ_discrete i e.member)
    where
      go : Dec (i ≡ e.member) → g (at (put e.member r.state s) i) ≡ latest k i e r.answer (old i)
      go (yes d) =
          ap (λ j. g (at (put e.member r.state s) j)) d
          ∙ ap g (p.there e.member r.state inside)
          ∙ sets
          ∙ ap (λ z. set_by (eqb e.kind k) r.answer e.v z) (ap (λ j. g (at s j)) (sym d) ∙ before i h)
          ∙ sym (on-it k i e r.answer (old i) (eq-eqb e.member i (sym d)))
      go (no d) =
          ap g (p.elsewhere e.member i r.state h d) ∙ before i h
          ∙ sym (of-another-member k i e r.answer (old i) (ne_eqb e.member i (λ q. d (sym q))))
