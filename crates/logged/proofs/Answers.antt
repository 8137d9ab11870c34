-- The lines of a history's events are those that are printed for them one after the other, and its answers those of a run.
-- Assumes nothing.
use mathlib.Core.Path.{◌≡◌, refl, sym, ap, ◌∙◌}
use mathlib.Core.List.{List, [], ◌++◌, append_assoc, append-nil}
use Prim.Native.Nat.{ℕ, zero, suc, ◌+◌, ◌/◌}
use native.Mathlib.Nat.{add-zero}
use native.Mathlib.Omega.{arith}
use lib.ListN.{length}
use Rattle.words.specs.Table.{tab}
use Rattle.buffers.specs.Pieces.{joined}
use Rattle.buffers.proofs.Joined.{joined-ext}
use Rattle.calls.specs.declared.Event.{Event}
use Rattle.board.specs.Handed.{reset_board, applied}
use Rattle.board.specs.Runs.{finish, replies}
use Rattle.board.specs.declared.Board.{Board}
use Rattle.records.specs.Records.{event_at}
use Rattle.runs.specs.After.{board_after, answer_to}
use Rattle.runs.specs.Answers.{answer_bytes, answers_after}
use Rattle.loglines.specs.Lines.{line_of, printed_for, printed}
use Rattle.logged.specs.Claim.{RehearsedAll}
use Rattle.logged.specs.Whole.{lines_of, answers_of, bytes_of}

-- the board after n events of any sequence
unfoldable after : (ℕ → Event) → Board → ℕ → Board
after ev b zero = b
after ev b (suc n) = (applied (after ev b n) (ev n)).state

unfoldable line_at : (ℕ → Event) → Board → ℕ → ℕ → List ℕ
line_at ev b i j = line_of (i + j) (ev j).kind (applied (after ev b j) (ev j)).answer

-- the first event taken off
after_first : (ev : ℕ → Event) (b : Board) (n : ℕ) → after ev b (suc n) ≡ after (λ j. ev (suc j)) (applied b (ev 0)).state n
unfolding after
after_first ev b zero = refl
after_first ev b (suc n) = ap (λ (x : Board). (applied x (ev (suc n))).state) (after_first ev b n)

joined-none : (f : ℕ → List ℕ) → joined 0 f ≡ []
unfolding joined
joined-none f = refl

joined-first : (n : ℕ) (f : ℕ → List ℕ) → joined (suc n) f ≡ f 0 ++ joined n (λ j. f (suc j))
unfolding joined
joined-first zero f = sym (append-nil (f 0))
joined-first (suc n) f = ap (λ (l : List ℕ). l ++ f (suc n)) (joined-first n f) ∙ append_assoc (f 0) (joined n (λ j. f (suc j))) (f (suc n))

line_first : (ev : ℕ → Event) (b : Board) (i : ℕ) → line_of i (ev 0).kind (applied b (ev 0)).answer ≡ line_at ev b i 0
unfolding line_at after
line_first ev b i = rw add-zero

line-next : (ev : ℕ → Event) (b : Board) (i j : ℕ) → line_at (λ k. ev (suc k)) (applied b (ev 0)).state (i + 1) j ≡ line_at ev b i (suc j)
unfolding line_at
line-next ev b i j =
    let place : i + 1 + j ≡ i + suc j = omega arith in
    rw (place, ← after_first ev b j)

lines-joined : (n i : ℕ) (ev : ℕ → Event) (b : Board) → lines_of i (tab n ev) (replies applied b (tab n ev)) ≡ joined n (line_at ev b i)
unfolding tab lines_of replies
lines-joined zero i ev b = sym (joined-none (line_at ev b i))
lines-joined (suc n) i ev b =
    let next : Board = (applied b (ev 0)).state in
    let rest : lines_of (i + 1) (tab n (λ j. ev (suc j))) (replies applied next (tab n (λ j. ev (suc j)))) ≡ joined n (λ j. line_at ev b i (suc j)) =
    lines-joined n (i + 1) (λ j. ev (suc j)) next ∙ joined-ext n (line_at (λ j. ev (suc j)) next (i + 1)) (λ j. line_at ev b i (suc j)) (λ j h. line-next ev b i j) in
    rw (rest, line_first ev b i) (sym (joined-first n (line_at ev b i)))

board-after : (b : Board) (h : List ℕ) (n : ℕ) → board_after b h n ≡ after (event_at h) b n
unfolding board_after after
board-after b h zero = refl
board-after b h (suc n) = ap (λ (x : Board). (applied x (event_at h n)).state) (board-after b h n)

pub answers-printed : (h : List ℕ) → answers_of h ≡ printed (answer_to reset_board h) h 0 (length h / 16)
unfolding answers_of printed printed_for line_at
answers-printed h =
    lines-joined (length h / 16) 0 (event_at h) reset_board
    ∙ joined-ext (length h / 16) (line_at (event_at h) reset_board 0) (printed_for (answer_to reset_board h) h 0) (λ j b. rw (← board-after reset_board h j))

-- ---- a run

after_none : (ev : ℕ → Event) (b : Board) → answer_bytes (applied b (ev 0)).answer ≡ answer_bytes (applied (after ev b 0) (ev 0)).answer
unfolding after
after_none ev b = refl

bytes-joined : (n : ℕ) (ev : ℕ → Event) (b : Board) → bytes_of (replies applied b (tab n ev)) ≡ joined n (λ j. answer_bytes (applied (after ev b j) (ev j)).answer)
unfolding tab bytes_of replies
bytes-joined zero ev b = sym (joined-none (λ j. answer_bytes (applied (after ev b j) (ev j)).answer))
bytes-joined (suc n) ev b =
    let next : Board = (applied b (ev 0)).state in
    let told : ℕ → List ℕ = λ j. answer_bytes (applied (after ev b j) (ev j)).answer in
    let rest : bytes_of (replies applied next (tab n (λ j. ev (suc j)))) ≡ joined n (λ j. told (suc j)) =
    bytes-joined n (λ j. ev (suc j)) next
    ∙ joined-ext n (λ j. answer_bytes (applied (after (λ k. ev (suc k)) next j) (ev (suc j))).answer) (λ j. told (suc j)) (λ j h. rw (← after_first ev b j)) in
    let one : answer_bytes (applied b (ev 0)).answer ≡ told 0 = after_none ev b in
    rw (rest, one) (sym (joined-first n told))

finish-after : (n : ℕ) (ev : ℕ → Event) (b : Board) → finish applied b (tab n ev) ≡ after ev b n
unfolding tab finish after
finish-after zero ev b = refl
finish-after (suc n) ev b = finish-after n (λ j. ev (suc j)) (applied b (ev 0)).state ∙ sym (after_first ev b n)

pub rehearsed : RehearsedAll
unfolding answers_after
rehearsed b h =
    let n = length h / 16 in
    record {
      answers =
          joined-ext n (λ j. answer_bytes (applied (board_after b h j) (event_at h j)).answer) (λ j. answer_bytes (applied (after (event_at h) b j) (event_at h j)).answer)
          (λ j c. rw (board-after b h j))
          ∙ sym (bytes-joined n (event_at h) b);
      last = board-after b h n ∙ sym (finish-after n (event_at h) b);
    }
