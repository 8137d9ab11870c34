-- A list that is filled from its start stays as it was behind that.
-- Assumes nothing.
use Rattle.std.proofs.Common.{◌≡◌, ℕ, ◌+◌, ◌-◌, List, ◌++◌, drop, get_or, arith}
use Rattle.std.proofs.lemmas.List.{get_or-append_right, get_or-drop}
use Rattle.words.specs.Table.{tab}
use Rattle.words.proofs.Tables.{length-tab}

pub filled-here : {A : Type 0} (n : ℕ) (f : ℕ → A) (l b : List A) (d : A) → b ≡ tab n f ++ drop n l → get_or b n d ≡ get_or l n d
filled-here n f l b d e =
    let place : n + (n - n) ≡ n = omega arith in
    rw (e, get_or-append_right (tab n f) (drop n l) n n d (length-tab n f) (omega arith), get_or-drop n l (n - n) d, place)
