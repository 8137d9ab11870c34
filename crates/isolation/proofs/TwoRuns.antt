-- Two lists with one remainder, on any machine: equal answers, and states that look alike. It is enough that an event that is struck out changes
-- nothing that is looked at, and that any other event answers by what is looked at, and changes it by nothing else.
-- Assumes nothing.
use mathlib.Core.Path.{◌≡◌, refl, ap, ap₂, sym, ◌∙◌}
use mathlib.Core.Bool.{Bool, true, false}
use mathlib.Core.List.{List, [], ◌∷◌}
use Rattle.calls.specs.declared.Reply.{Reply}
use Rattle.calls.specs.declared.Answer.{Answer}
use Rattle.board.specs.Runs.{finish, replies, remainder}
use Rattle.isolation.specs.Lists.{all_answers, kept_answers, AfterEach}

-- equal answers, and states that look alike
pub record Follows {S : Type 0} (Seen : S → S → Type 0) (r q : Reply S) : Type 0 where
  pub answer : r.answer ≡ q.answer
  pub state : Seen r.state q.state

-- Told t s: the events up to state s told t. Seen s h: the two states look alike.
module _ {S E T : Type 0} (machine : S → E → Reply S) (struck : E → Answer → Bool) (shown : E → E) (tell : T → E → Answer → T)
    (Closed : T → Type 0) (Told : T → S → Type 0) (Seen : S → S → Type 0)
    (tells : (t : T) (s : S) (e : E) → Told t s → Told (tell t e (machine s e).answer) (machine s e).state)
    (kept : (t : T) (s h : S) (e : E) → Told t s → Closed (tell t e (machine s e).answer) → Seen s h → struck e (machine s e).answer ≡ false
    → Follows Seen (machine s e) (machine h (shown e)))
    (gone : (s h : S) (e : E) → Seen s h → struck e (machine s e).answer ≡ true → Seen (machine s e).state h)
  where
    -- a list from s beside its remainder from h
    pub record Alone (s h : S) (es : List E) : Type 0 where
      pub answered : kept_answers machine struck s es ≡ all_answers machine h (remainder machine struck shown s es)
      pub ended : Seen (finish machine s es) (finish machine h (remainder machine struck shown s es))

    pub alone : (t : T) (s h : S) (es : List E) → Told t s → AfterEach machine tell Closed t s es → Seen s h → Alone s h es
    unfolding replies kept_answers remainder finish
    alone t s h [] m closed v = record { answered = refl; ended = v }
    alone t s h (e ∷ es) m closed v = go (struck e (machine s e).answer) refl (λ g. alone (tell t e (machine s e).answer) z g es (tells t s e m) closed.1)
      where
        z : S
        z = (machine s e).state

        go : (u : Bool) → struck e (machine s e).answer ≡ u → ((g : S) → Seen z g → Alone z g es) → Alone s h (e ∷ es)
        go true k rest = let a = rest h (gone s h e v k) in record { answered = rw k a.answered; ended = rw k a.ended }
        go false k rest =
            let f = kept t s h e m closed.0 v k in
            let a = rest (machine h (shown e)).state f.state in
            record { answered = rw k (ap₂ ◌∷◌ f.answer a.answered); ended = rw k a.ended }

    -- two lists, each beside the one remainder
    pub two_runs : (t : T) (s : S) (es fs : List E) → Told t s → Seen s s
        → AfterEach machine tell Closed t s es → AfterEach machine tell Closed t s fs
        → ((x y h : S) → Seen x h → Seen y h → Seen x y)
        → remainder machine struck shown s es ≡ remainder machine struck shown s fs
        → (kept_answers machine struck s es ≡ kept_answers machine struck s fs) × Seen (finish machine s es) (finish machine s fs)
    two_runs t s es fs m v c₁ c₂ meets alike =
        let p = alone t s s es m c₁ v in
        let q = alone t s s fs m c₂ v in (
          p.answered ∙ ap (all_answers machine s) alike ∙ sym q.answered,
          meets _ _ _ p.ended (rw alike q.ended),
        )
