-- `board::Board::call` meets its contract.
-- Assumes nothing.
use Rattle.std.proofs.Common.{refl, sym}
use Rattle.board.proofs.Checks.{told, named, on-board, refused-call, passes, passed-call}
use Rattle.board.proofs.Same.{board-pins}
use Rattle.board.specs.Respond.{refusal_by, passed_by}
use Rattle.board.specs.declared.Class.TheVariants.{OnChannel, OnPin, OnVirtual, OnBoard}
use Rattle.board.proofs.Board.call.Goals as goal

pub returns-in-Some : goal.returns-in-Some
returns-in-Some c =
    let a = c.args in
    rw (c.number.ensures, c.from.ensures) (sym (refused-call a.self.now a.e _ _ c.class_of-class.ensures c.in-Some.ensures (told c.in-Some.refusal)))

pub bounds-self-m : goal.bounds-self-m
unfolding refusal_by
bounds-self-m c =
    let a = c.args in
    named 6 _ a.e (passes a.self.now a.e _ 0 c.class_of-class.ensures c.in_default.ensures OnChannel c.in-OnChannel.is (refl))

pub pins_call-requires : goal.pins_call-requires
unfolding refusal_by
pins_call-requires c =
    let a = c.args in
    record {
      member = named 48 _ a.e (passes a.self.now a.e _ 0 c.class_of-class.ensures c.in_default.ensures OnPin c.in-OnPin.is refl);
      sound = board-pins a.self.now c.requires;
    }

pub virtuals_call-requires : goal.virtuals_call-requires
unfolding refusal_by
virtuals_call-requires c =
    let a = c.args in
    named 6 _ a.e (passes a.self.now a.e _ 0 c.class_of-class.ensures c.in_default.ensures OnVirtual c.in-OnVirtual.is refl)

pub returns-in-OnChannel : goal.returns-in-OnChannel
unfolding passed_by
returns-in-OnChannel c =
    let a = c.args in
    rw (passed-call a.self.now a.e _ 0 c.class_of-class.ensures c.in_default.ensures OnChannel c.in-OnChannel.is refl, ← c.channel_call.ensures)

pub returns-in-OnPin : goal.returns-in-OnPin
unfolding passed_by
returns-in-OnPin c =
    let a = c.args in
    let s = c.store.ensures in
    rw (passed-call a.self.now a.e _ 0 c.class_of-class.ensures c.in_default.ensures OnPin c.in-OnPin.is refl, s.state, s.answer, c.pins_call.ensures)

pub returns-in-OnVirtual : goal.returns-in-OnVirtual
unfolding passed_by
returns-in-OnVirtual c =
    let a = c.args in
    let s = c.store-in-OnVirtual.ensures in
    rw (passed-call a.self.now a.e _ 0 c.class_of-class.ensures c.in_default.ensures OnVirtual c.in-OnVirtual.is refl, s.state, s.answer, c.virtuals_call.ensures)

pub returns-in_default-class : goal.returns-in_default-class
unfolding passed_by
returns-in_default-class c =
    let a = c.args in
    let s = c.store-in_default-class.ensures in
    let is = on-board _ _ a.e (sym c.in_default.ensures) c.in_default-class.not-OnChannel c.in_default-class.not-OnPin c.in_default-class.not-OnVirtual in
    rw (passed-call a.self.now a.e _ 0 c.class_of-class.ensures c.in_default.ensures OnBoard is refl, s.state, s.answer, c.board_call.ensures)
