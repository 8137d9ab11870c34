-- Laws of the answers of a run.
-- Assumes nothing.
use mathlib.Core.Path.{◌≡◌, refl, sym, ap, ◌∙◌}
use mathlib.Core.Bool.{Bool, true, false, cond}
use mathlib.Core.List.{List, [], ◌++◌, append_assoc, append-nil}
use Prim.Native.Nat.{ℕ, ◌+◌, ◌*◌, ◌%◌, ◌^◌, ◌≤◌, ◌<◌}
use native.Mathlib.Nat.{add-zero}
use native.Mathlib.Omega.{arith}
use borrow.Author.Tests.{eq-eqb, le-ltb, ltb-false}
use lib.Dec.{eqb, ltb}
use lib.ListN.{length, take, drop, replicate, length-append, length-drop}
use lib.Seq.{take-append-le, drop-append-le}
use Rattle.buffers.specs.Pieces.{put, piece, joined}
use Rattle.buffers.specs.Little.{little, field}
use Rattle.buffers.proofs.Joined.{pieces-before, length-joined, piece-joined}
use Rattle.buffers.proofs.Put.{length-put}
use Rattle.buffers.proofs.Little.{length-little, field-little, field-part}
use Rattle.buffers.proofs.Wrote.{Wrote, length-wrote, more, chain}
use Rattle.calls.specs.Reply.{number}
use Rattle.calls.specs.declared.Answer.{Answer}
use Rattle.board.specs.declared.Board.{Board}
use Rattle.runs.specs.After.{reply_at}
use Rattle.runs.specs.Answers.{answer_bytes, answer_of, answers_after, Found, run_result}

pub length-answer : (a : Answer) → length (answer_bytes a) ≡ 16
unfolding answer_bytes
length-answer a = simp (length-append, length-little)

-- the answer to an accepted step is all zeros
pub zero-answer : answer_bytes (number 0 0) ≡ replicate 16 0
unfolding answer_bytes little
zero-answer = refl

-- ---- an answer is found again from its bytes

-- four numbers of 32 bits
pub record Small (a : Answer) : Type 0 where
  pub result : a.result < 256 ^ 4
  pub value : a.value < 256 ^ 4
  pub timestamp : a.timestamp < 256 ^ 4
  pub reason : a.reason < 256 ^ 4

pub small-found : (a : Answer) → Small a → Found a
unfolding answer_bytes answer_of
small-found a s =
    let r = little 4 a.result in
    let v = little 4 a.value in
    let t = little 4 a.timestamp in
    let w = little 4 a.reason in
    let whole : r ++ (v ++ (t ++ w)) ≡ (r ++ v) ++ (t ++ w) = sym (append_assoc r v (t ++ w)) in
    let whole' : r ++ (v ++ (t ++ w)) ≡ ((r ++ v) ++ t) ++ (w ++ []) = whole ∙ sym (append_assoc (r ++ v) t w) ∙ ap (λ (l : List ℕ). ((r ++ v) ++ t) ++ l) (sym (append-nil w)) in
    let result : field 4 (r ++ (v ++ (t ++ w))) 0 ≡ a.result = field-little 4 [] 0 a.result (v ++ (t ++ w)) refl s.result in
    let value : field 4 (r ++ (v ++ (t ++ w))) 4 ≡ a.value = field-little 4 r 4 a.value (t ++ w) (length-little 4 a.result) s.value in
    let timestamp : field 4 (r ++ (v ++ (t ++ w))) 8 ≡ a.timestamp =
    ap (λ (l : List ℕ). field 4 l 8) whole ∙ field-little 4 (r ++ v) 8 a.timestamp w (simp (length-append, length-little)) s.timestamp in
    let reason : field 4 (r ++ (v ++ (t ++ w))) 12 ≡ a.reason =
    ap (λ (l : List ℕ). field 4 l 12) whole' ∙ field-little 4 ((r ++ v) ++ t) 12 a.reason [] (simp (length-append, length-little)) s.reason in
    λ i. record { result = result i; value = value i; timestamp = timestamp i; reason = reason i }

pub zero-found : Found (number 0 0)
zero-found = small-found (number 0 0) (record { result = omega arith; value = omega arith; timestamp = omega arith; reason = omega arith })

-- from the answers to all events
pub all_found : (b : Board) (h out after : List ℕ) (n : ℕ) → 16 * n ≤ length out → after ≡ put out 0 (answers_after b h n)
    → ((j : ℕ) → j < n → Found (reply_at b h j).answer) → (j : ℕ) → j < n → answer_of (piece 16 after j) ≡ (reply_at b h j).answer
unfolding answers_after put piece
all_found b h out after n room made found j c =
    let f : ℕ → List ℕ = λ k. answer_bytes (reply_at b h k).answer in
    let sizes : (k : ℕ) → length (f k) ≡ 16 = λ k. length-answer (reply_at b h k).answer in
    let long : length (joined n f) ≡ 16 * n = length-joined 16 n f (λ k _. sizes k) in
    let before : 16 * j + 16 ≤ 16 * n = pieces-before 16 j n c in
    let start : 16 * j ≤ length (joined n f) = omega arith in
    let part : 16 ≤ length (drop (16 * j) (joined n f)) = simp length-drop (omega arith) in
    let rest : List ℕ = drop (0 + length (joined n f)) out in
    let front : after ≡ joined n f ++ rest = made in
    let here : take 16 (drop (16 * j) after) ≡ f j =
    ap (λ (l : List ℕ). take 16 (drop (16 * j) l)) front
    ∙ ap (take 16) (drop-append-le (16 * j) (joined n f) rest start)
    ∙ take-append-le 16 (drop (16 * j) (joined n f)) rest part
    ∙ piece-joined 16 n f (λ k _. sizes k) (λ k _. omega (arith, sizes k)) j c in
    rw here (found j c)

-- and the output keeps its length
pub same-long : (b : Board) (h out after : List ℕ) (n : ℕ) → 16 * n ≤ length out → after ≡ put out 0 (answers_after b h n) → length after ≡ length out
unfolding answers_after
same-long b h out after n room made =
    let f : ℕ → List ℕ = λ k. answer_bytes (reply_at b h k).answer in
    let long : length (joined n f) ≡ 16 * n = length-joined 16 n f (λ k _. length-answer (reply_at b h k).answer) in
    ap length made ∙ length-put out 0 (joined n f) (omega arith)

-- the answer read word by word
pub answer-read : (l : List ℕ) (at : ℕ) → at + 16 ≤ length l
    → record { result = field 4 l at; value = field 4 l (at + 4); timestamp = field 4 l (at + 8); reason = field 4 l (at + 12) } ≡ answer_of (take 16 (drop at l))
unfolding answer_of
answer-read l at room =
    let word : (i : ℕ) → i + 4 ≤ 16 → field 4 l (at + i) ≡ field 4 (take 16 (drop at l)) i = λ i c. sym (field-part 4 16 at l i c room) in
    let result : field 4 l at ≡ field 4 (take 16 (drop at l)) 0 = ap (field 4 l) (sym (add-zero at)) ∙ word 0 (omega arith) in
    λ i. record { result = result i; value = word 4 (omega arith) i; timestamp = word 8 (omega arith) i; reason = word 12 (omega arith) i }

-- an answer put word by word
pub answer-put : (d : List ℕ) (at : ℕ) (a : Answer) (o₁ o₂ o₃ o₄ : List ℕ) → at + 16 ≤ length d
    → o₁ ≡ put d at (little 4 a.result) → o₂ ≡ put o₁ (at + 4) (little 4 a.value) → o₃ ≡ put o₂ (at + 8) (little 4 a.timestamp)
    → o₄ ≡ put o₃ (at + 12) (little 4 a.reason) → o₄ ≡ put d at (answer_bytes a)
unfolding answer_bytes
answer-put d at a o₁ o₂ o₃ o₄ room e₁ e₂ e₃ e₄ =
    let w₁ : Wrote d at (little 4 a.result) (at + 4) o₁ = (word at (at + 4) a.result refl, e₁) in
    let w₂ : Wrote o₁ (at + 4) (little 4 a.value) (at + 8) o₂ = (word (at + 4) (at + 8) a.value (omega arith), e₂) in
    let w₃ : Wrote o₂ (at + 8) (little 4 a.timestamp) (at + 12) o₃ = (word (at + 8) (at + 12) a.timestamp (omega arith), e₃) in
    let w₄ : Wrote o₃ (at + 12) (little 4 a.reason) (at + 16) o₄ = (word (at + 12) (at + 16) a.reason (omega arith), e₄) in
    let l₁ : length o₁ ≡ length d = length-wrote d at (little 4 a.result) (at + 4) o₁ w₁ (omega (arith, room)) in
    let l₂ : length o₂ ≡ length o₁ = length-wrote o₁ (at + 4) (little 4 a.value) (at + 8) o₂ w₂ (omega (arith, room, l₁)) in
    let w₅ : Wrote o₂ (at + 8) (little 4 a.timestamp ++ little 4 a.reason) (at + 16) o₄ =
    more o₂ (at + 8) (little 4 a.timestamp) (at + 12) o₃ (little 4 a.reason) (at + 16) o₄ w₃ w₄ (omega (arith, room, l₁, l₂)) in
    (chain d at (little 4 a.result) (at + 4) o₁ (little 4 a.value) (at + 8) o₂ (little 4 a.timestamp ++ little 4 a.reason) (at + 16) o₄ w₁ w₂ w₅ room).1
  where
    word : (i j v : ℕ) → j ≡ i + 4 → j ≡ i + length (little 4 v)
    word i j v e = omega (arith, e, length-little 4 v)

-- result 0 means that there is room
pub has_room : (len room : ℕ) → run_result len room ≡ 0 → len ≤ room
unfolding run_result
has_room len room h = by_tests (eqb (len % 16) 0) (ltb room len) refl h
  where
    by_tests : (s t : Bool) → ltb room len ≡ t → ◌≡◌ {A = ℕ} (cond s (cond t 10 0) 11) 0 → len ≤ room
    by_tests true true e h = absurd (omega (arith, h))
    by_tests true false e h = ltb-false room len e
    by_tests false t e h = absurd (omega (arith, h))

-- whole records with room for their answers are run
pub runs-whole : (len room k : ℕ) → len ≡ 16 * k → len ≤ room → run_result len room ≡ 0
unfolding run_result
runs-whole len room k whole fits = let even : len % 16 ≡ 0 = omega arith in rw (eq-eqb _ 0 even, le-ltb room len fits)
