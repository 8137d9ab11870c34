-- `counter::Channel::capture` meets its contract.
-- Assumes nothing.
use Rattle.std.proofs.Common.{◌≡◌, ℕ, ◌+◌, ◌-◌, ◌^◌, ◌<◌, cond, ltb, min, arith, rules}
use Rattle.std.proofs.lemmas.Bool.Decides.{nat_tests}
use Rattle.counter.specs.Queue.{captured}
use Rattle.counter.proofs.Channel.capture.Goals as goal

-- the lost count goes up, and stays at the greatest
more_lost : (n : ℕ) → n < 2 ^ 32 → min (n + 1) (2 ^ 32 - 1) ≡ cond (ltb n (2 ^ 32 - 1)) (n + 1) n
more_lost n h = grind (arith, nat_tests)

pub returns-then-stored : goal.returns-then-stored
unfolding captured
returns-then-stored c =
    simp (c.put-self-then-stored-2.ensures, c.put-self-then-stored.ensures, c.put-self.ensures, c.if-stored.true-raw)

pub returns-else-stored : goal.returns-else-stored
unfolding captured
returns-else-stored c =
    simp (c.if-stored.false-raw, c.saturating_add.ensures, more_lost c.args.self.lost (search rules))
