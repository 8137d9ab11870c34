-- A capture and its reading, a preload, a start and a step leave the settings of a channel, its mode word and its route.
-- Assumes nothing.
use Rattle.std.proofs.Common.{◌≡◌, ℕ, eqb, ltb, refl}
use Rattle.words.proofs.Cases.{either}
use Rattle.counter.specs.Mode.{TP}
use Rattle.counter.specs.Queue.{captured, popped}
use Rattle.counter.specs.Preload.{allowed, preloaded, started}
use Rattle.counter.specs.Advance.{Inputs, recorded, settled, step, advance}
use Rattle.counter.specs.declared.Channel.{Channel}
use Rattle.counter.specs.declared.Capture.{Capture}
use Rattle.counter.specs.declared.Next.{Next}

-- d has the settings of c
pub record SameSettings (c d : Channel) : Type 0 where
  pub mode : d.mode ≡ c.mode
  pub route : d.route ≡ c.route

module _ (c : Channel) where
  abbrev Told : Capture → Type 0
  Told t = SameSettings c t.channel

  pub captured-same : (n t r : ℕ) → Told (captured n t r c)
  unfolding captured
  captured-same n t r = either Told (ltb c.held 16) (record { mode = refl; route = refl }) (record { mode = refl; route = refl })

  pub recorded-same : (timestamp : ℕ) (n : Next) → Told (recorded timestamp n c)
  recorded-same timestamp n = either Told (eqb n.caught 0) (record { mode = refl; route = refl }) (captured-same n.seen timestamp n.caught)

  pub popped-same : SameSettings c (popped c)
  unfolding popped
  popped-same = record { mode = refl; route = refl }

  pub preloaded-same : (d : Channel) → SameSettings c d → SameSettings c (preloaded d)
  unfolding preloaded
  preloaded-same d a = either (SameSettings c) (allowed d.mode d.count) (record { mode = a.mode; route = a.route }) a

  pub started-same : SameSettings c (started c)
  unfolding started
  started-same =
      let same : SameSettings c c = record { mode = refl; route = refl } in
      either (SameSettings c) c.running same
      (either (SameSettings c) (TP c.mode 24) (preloaded-same _ (record { mode = refl; route = refl })) (record { mode = refl; route = refl }))

  settled_same : (now timestamp : ℕ) (n : Next) → SameSettings c (settled now timestamp n c)
  unfolding settled
  settled_same now timestamp n =
      let told = recorded-same timestamp n in
      record { mode = told.mode; route = told.route }

  pub advance-same : (i : Inputs) → SameSettings c (advance i c)
  unfolding advance step
  advance-same i = settled_same i.now i.timestamp _
