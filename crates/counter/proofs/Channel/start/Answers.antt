-- `counter::Channel::start` meets its contract.
-- Assumes nothing.
use Rattle.std.proofs.Common.{sym, ◌∙◌}
use Rattle.counter.specs.Preload.{started}
use Rattle.counter.proofs.Channel.start.Goals as goal

pub returns-then-self : goal.returns-then-self
unfolding started
returns-then-self c = simp c.if-self.true

pub returns-then-tp : goal.returns-then-tp
unfolding started
returns-then-tp c =
    simp (c.preload.ensures, c.begin.ensures, sym c.tp.ensures ∙ c.if-tp.true, c.if-self.false)

pub returns-else-tp : goal.returns-else-tp
unfolding started
returns-else-tp c = simp (c.begin-else-tp.ensures, sym c.tp.ensures ∙ c.if-tp.false, c.if-self.false)
