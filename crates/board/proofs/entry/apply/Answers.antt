-- `board::entry::apply` meets its contract.
-- Assumes nothing.
use mathlib.Core.Path.{◌≡◌, ap, sym, ◌∙◌}
use mathlib.Core.Bool.{true, false}
use Rattle.calls.specs.Fields.{is_step}
use Rattle.calls.specs.Reply.{accept}
use Rattle.calls.specs.declared.Reply.{Reply}
use Rattle.calls.specs.declared.Event.{Event}
use Rattle.board.specs.Step.{stepped}
use Rattle.board.specs.Respond.{called, respond, outcome}
use Rattle.board.specs.Handed.{repaired_board, kept, applied}
use Rattle.board.specs.declared.Board.{Board}
use Rattle.board.proofs.Steps.{of-step, of-call}
use Rattle.board.proofs.Kept.{stored}
use Rattle.board.proofs.Same.{board-repaired}
use Rattle.board.proofs.entry.apply.Goals as goal

-- an accepted step of the repaired board
of-stepped : (b : Board) (e : Event) → is_step e ≡ true → outcome (accept (stepped e.v e.w (repaired_board b))) ≡ outcome (applied b e)
of-stepped b e is =
    let r = of-step (repaired_board b) e is in
    ap outcome (sym (stored b e (ap (λ (x : Reply Board). x.answer.result) r) ∙ r))

-- r is what a call on the repaired board s gave
of-called : (b : Board) (e : Event) (s x : Board) (r : Reply Board) → is_step e ≡ false → s ≡ repaired_board b → r ≡ called s e
    → x ≡ kept b e.member r.answer.result r.state → record { board = x; answer = r.answer } ≡ outcome (applied b e)
unfolding applied
of-called b e s x r other q p k =
    let same : r ≡ respond (repaired_board b) e = rw (← q) (p ∙ sym (of-call s e other)) in
    rw (k, ← same)

pub returns-then-is_step : goal.returns-then-is_step
returns-then-is_step c =
    let a = c.args in
    rw (c.number.ensures, c.step.ensures, c.mended-sound.ensures)
    (of-stepped a.board a.event (sym c.is_step.ensures ∙ c.if-is_step.true))

pub replied-reply-requires : goal.replied-reply-requires
replied-reply-requires c =
    let mended = c.mended-sound.ensures in
    rw mended (board-repaired c.args.board)

pub returns : goal.returns
returns c =
    let a = c.args in
    let other = sym c.is_step.ensures ∙ c.if-is_step.false in
    of-called a.board a.event _ _ _ other c.mended-sound.ensures c.replied-reply.ensures c.kept.ensures
