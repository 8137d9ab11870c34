-- Demand 2 over lists of events from reset.
-- Assumes nothing.
use Rattle.std.specs.Prelude.{◌≡◌, true, List, [], ◌∷◌, length}
use Rattle.calls.specs.declared.Event.{Event}
use Rattle.board.specs.Respond.{respond}
use Rattle.board.specs.Handed.{reset_board, in_range, repaired_board, applied}
use Rattle.board.specs.Runs.{finish, replies}
use Rattle.board.specs.declared.Board.{Board}

-- P of every element
abbrev pub Every : {A : Type 0} → (A → Type 0) → List A → Type 0
Every P [] = Unit
Every P (x ∷ xs) = P x × Every P xs

-- what the entry point `apply` promises, folded over a list, gives the answers and the boards of the machine; every board is in range, and
-- the repair leaves it alone
pub record OnLists (es : List Event) : Type 0 where
  pub same : replies applied reset_board es ≡ replies respond reset_board es
  pub same_last : finish applied reset_board es ≡ finish respond reset_board es
  pub ranged : Every (λ r. in_range r.state ≡ true) (replies respond reset_board es)
  pub last : in_range (finish respond reset_board es) ≡ true

-- a board in range: the repair changes nothing, and the entry point is the machine
pub record OnBoards (b : Board) : Type 0 where
  pub alone : repaired_board b ≡ b
  pub entry : (e : Event) → applied b e ≡ respond b e
  pub stays : (e : Event) → in_range (respond b e).state ≡ true

abbrev pub Demand2 : Type 0
Demand2 = ((b : Board) → in_range b ≡ true → OnBoards b) × ((es : List Event) → OnLists es)

-- a board handed in, with its six channels: each event is answered as on the repaired board, and leaves what the repair makes that board's next
pub record OnHanded (b : Board) (e : Event) : Type 0 where
  pub answer : (applied b e).answer ≡ (respond (repaired_board b) e).answer
  pub next : repaired_board (applied b e).state ≡ (respond (repaired_board b) e).state
  pub six : length (applied b e).state.channels ≡ 6

abbrev pub HandedIn : Type 0
HandedIn = (b : Board) → length b.channels ≡ 6 → (e : Event) → OnHanded b e
