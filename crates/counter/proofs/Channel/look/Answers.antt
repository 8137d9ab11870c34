-- `counter::Channel::look` meets its contract.
-- Assumes nothing.
use Rattle.std.proofs.Common.{◌≡◌, ◌∙◌, to_z-of_z}
use Rattle.counter.specs.Mode.{K}
use Rattle.counter.specs.Difference.{clocked, errs}
use Rattle.counter.specs.Advance.{look}
use Rattle.counter.proofs.Turns.{clocked-small, turned-counts, turned-errs}
use Rattle.counter.proofs.Signed.{back}
use Rattle.counter.proofs.Channel.look.Goals as goal

pub reversed-d-requires : goal.reversed-d-requires
reversed-d-requires c =
    let u = c.unwrap_or in
    rw (back u.result u.type_inv, u.ensures, c.clock-turn.ensures, turned-counts _ _ _ _ _) (clocked-small _ _ _ _ _)

pub returns-then-self : goal.returns-then-self
unfolding look
returns-then-self c =
    let a = c.args in
    let k = K a.self.mode in
    let u = c.unwrap_or in
    let turn = rw (to_z-of_z c.ranges.carried, c.k.ensures) at c.clock-turn.ensures in
    let counts : u.result ≡ clocked k a.self.kept a.now a.rises a.carried = u.ensures ∙ rw turn (turned-counts k a.self.kept a.now a.rises a.carried) in
    let erred : c.is_none.result ≡ errs k a.self.kept a.now = turned-errs k a.self.kept a.now a.rises a.carried c.is_none.result (rw turn at c.is_none.ensures) in
    rw (
      c.index.ensures,
      c.from.ensures,
      erred,
      c.edge_reasons.ensures,
      back c.gate.result c.gate.type_inv,
      c.gate.ensures,
      c.counts.ensures,
      back c.reversed-d.result c.reversed-d.type_inv,
      c.reversed-d.ensures,
      back u.result u.type_inv,
      counts,
      c.ud.ensures,
      c.armed_by_edge-armed.ensures,
      c.if-self.true,
    )

pub returns : goal.returns
unfolding look
returns c = rw c.if-self.false
