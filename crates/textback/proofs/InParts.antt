-- Records that are printed part by part give the text of all of them.
-- Assumes nothing.
use mathlib.Core.Path.{◌≡◌, refl, ap, sym, ◌∙◌}
use mathlib.Core.Bool.{cond}
use mathlib.Core.List.{List, [], ◌++◌, append_assoc, append-nil}
use Prim.Native.Nat.{ℕ, zero, suc, ◌+◌, ◌*◌, ◌/◌, ◌≤◌}
use native.Mathlib.Nat.{add-zero, add-suc}
use native.Mathlib.Omega.{arith}
use lib.ListN.{length, length-append}
use Rattle.calls.specs.declared.Event.{Event}
use Rattle.records.specs.Records.{event_at}
use Rattle.records.proofs.Records.{event-front, event-back}
use Rattle.textout.specs.declared.Run.{Run}
use Rattle.textout.specs.Prints.{run_line, next_run, ended_run, run_after, text_after, printed_text}
use Rattle.textback.specs.Claim.{InParts}

module _ (a b : List ℕ) (n : ℕ) (long : length a ≡ 16 * n) (r : Run) where
  run-first : (k : ℕ) → k ≤ n → run_after r (a ++ b) k ≡ run_after r a k
  unfolding run_after
  run-first zero h = refl
  run-first (suc k) h =
      ap (λ (x : Run). next_run x (event_at (a ++ b) k)) (run-first k (omega arith)) ∙ ap (next_run (run_after r a k)) (event-front a b n long k (omega arith))

  text-first : (k : ℕ) → k ≤ n → text_after r (a ++ b) k ≡ text_after r a k
  unfolding text_after
  text-first zero h = refl
  text-first (suc k) h =
      ap (λ (x : List ℕ). x ++ ended_run (run_after r (a ++ b) k) (event_at (a ++ b) k)) (text-first k (omega arith))
      ∙ ap (λ (x : Run). text_after r a k ++ ended_run x (event_at (a ++ b) k)) (run-first k (omega arith))
      ∙ ap (λ (x : Event). text_after r a k ++ ended_run (run_after r a k) x) (event-front a b n long k (omega arith))

  abbrev s : Run
  s = run_after r a n

  run-second : (m : ℕ) → run_after r (a ++ b) (n + m) ≡ run_after s b m
  unfolding run_after
  run-second zero = rw (add-zero n) (run-first n (omega arith))
  run-second (suc m) =
      rw (add-suc n m)
      (ap (λ (x : Run). next_run x (event_at (a ++ b) (n + m))) (run-second m) ∙ ap (next_run (run_after s b m)) (event-back a b n long m))

  text-second : (m : ℕ) → text_after r (a ++ b) (n + m) ≡ text_after r a n ++ text_after s b m
  unfolding text_after
  text-second zero = rw (add-zero n) (text-first n (omega arith) ∙ sym (append-nil (text_after r a n)))
  text-second (suc m) =
      rw (add-suc n m)
      (ap (λ (x : List ℕ). x ++ ended_run (run_after r (a ++ b) (n + m)) (event_at (a ++ b) (n + m))) (text-second m)
      ∙ ap (λ (x : Run). (text_after r a n ++ text_after s b m) ++ ended_run x (event_at (a ++ b) (n + m))) (run-second m)
      ∙ ap (λ (x : Event). (text_after r a n ++ text_after s b m) ++ ended_run (run_after s b m) x) (event-back a b n long m)
      ∙ append_assoc (text_after r a n) (text_after s b m) (ended_run (run_after s b m) (event_at b m)))

pub in_parts : InParts
unfolding printed_text
in_parts r a b last whole =
    let long : length a ≡ 16 * (length a / 16) = omega arith in
    let both : length (a ++ b) / 16 ≡ length a / 16 + length b / 16 = rw (length-append a b) (omega arith) in
    let run = run-second a b (length a / 16) long r (length b / 16) in
    let text = text-second a b (length a / 16) long r (length b / 16) in (
      rw (both, run, text, append-nil (text_after r a (length a / 16)))
          (append_assoc (text_after r a (length a / 16)) (text_after (run_after r a (length a / 16)) b (length b / 16)) (cond last (run_line (run_after (run_after r a (length a / 16)) b (length b / 16))) [])),
      rw both run,
    )
