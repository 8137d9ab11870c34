-- A step takes nothing from an outsider to a member: each part of the step on two boards that look alike, where members are closed.
-- Assumes nothing.
use mathlib.Core.Path.{◌≡◌, refl, ap, ap₂, sym, ◌∙◌}
use mathlib.Core.Bool.{Bool, true, cond, not, ◌&&◌, ◌||◌, beq, and-eq-true_iff}
use mathlib.Core.List.{List}
use Prim.Native.Nat.{ℕ, ◌+◌, ◌-◌, ◌*◌, ◌/◌, ◌≤◌, ◌<◌}
use native.Mathlib.Omega.{arith}
use lib.Dec.{eqb, ltb}
use lib.IntN.{ℤ}
use borrow.Author.Tests.{eqb-true, ltb-true, ltb-false}
use Rattle.words.specs.Bits.{bit, word}
use Rattle.words.proofs.BitLaws.{bit_word}
use Rattle.counter.specs.Mode.{XS, K, IP}
use Rattle.counter.specs.Samples.{samples}
use Rattle.counter.specs.Advance.{inputs, advance}
use Rattle.counter.specs.Repair.{no_channel}
use Rattle.counter.specs.declared.Channel.{Channel}
use Rattle.ports.specs.Pins.{pin_at, WholePin, whole_at, raw_level, sensed, sourced, driven_by, driven}
use Rattle.ports.specs.Virtuals.{virtual_level, virtual_levels, routed}
use Rattle.ports.specs.declared.Pin.{Pin}
use Rattle.ports.proofs.Wholes.{sensed_pin, sensed-at}
use Rattle.control.specs.Safety.{pin_triggers, active_level, watchdog_triggers, guarded}
use Rattle.control.specs.Clock.{advanced, rises_at, ticks}
use Rattle.control.specs.Watchdog.{has_expired, watched}
use Rattle.control.specs.declared.Safety.{Safety}
use Rattle.control.specs.declared.Core.{Core}
use Rattle.board.specs.Inputs.{channel_in, neighbour, extouts, index_of, carried_by, samples_of, inputs_of, channel_next, all_next}
use Rattle.board.specs.Step.{scene_of, scene_in, core_next, step_with, stepped}
use Rattle.board.specs.declared.Board.{Board}
use Rattle.board.specs.declared.Scene.{Scene}
use Rattle.reach.proofs.RangedBoard.{neighbour-lt}
use Rattle.words.proofs.Tables.{get_or-tab}
use Rattle.isolation.specs.Members.{Members}
use Rattle.isolation.specs.Settings.{Settings}
use Rattle.isolation.specs.Closed.{Closed}
use Rattle.isolation.specs.Remainder.{keep_bits}
use Rattle.isolation.proofs.Cases.{chosen, joint}
use Rattle.isolation.proofs.Stores.{Agree}
use Rattle.isolation.proofs.Seen.{Seen}
use Rattle.isolation.proofs.Told.{Told}

-- ---- the words of two scenes, at the members' bits

-- words whose bits are given, in a law or by a mask
words-agree : (n : ℕ) (m f g : ℕ → Bool) → ((i : ℕ) → i < n → m i ≡ true → f i ≡ g i) → Agree n bit m (word n f) (word n g)
words-agree n m f g h i k t = bit_word n f i k ∙ h i k t ∙ sym (bit_word n g i k)

pub kept-agree : (n : ℕ) (m : ℕ → Bool) (v : ℕ) → Agree n bit m v (keep_bits n m v)
kept-agree n m v i k t = sym (bit_word n (λ j. m j && bit v j) i k ∙ ap (λ u. u && bit v i) t)

module _ (M : Members) where
  -- what two scenes show the members
  record SameScene (s z : Scene) : Type 0 where
    lines : Agree 18 bit (λ i. M.is_channel (i / 3)) s.lines z.lines
    outs : Agree 6 bit M.is_channel s.outs z.outs
    ticks : s.ticks ≡ z.ticks
    levels : Agree 48 bit M.is_pin s.levels z.levels
    virtuals : Agree 6 bit M.is_virtual s.virtuals z.virtuals
    timestamp : s.timestamp ≡ z.timestamp
    rises : s.rises ≡ z.rises

  -- ---- one channel

  module _ (s z : Scene) (a : SameScene s z) where
    index_same : (x : ℕ) {i j : Bool} → i ≡ j → (2 ≤ x → x ≤ 7 → M.is_channel (x - 2) ≡ true)
        → index_of x i s.outs s.ticks ≡ index_of x j z.outs z.ticks
    unfolding index_of
    index_same x e h =
        chosen (ltb x 2) (λ _. ap (λ t. not (beq t (eqb x 1))) e)
        (λ l. chosen (ltb x 8)
        (λ u. a.outs (x - 2) (omega (arith, ltb-true x 8 u)) (h (omega (arith, ltb-false x 2 l)) (omega (arith, ltb-true x 8 u))))
        (λ _. ap (λ t. bit t (x - 8)) a.ticks))

    routed-same : (r : ℕ) → (r ≤ 47 → M.is_pin r ≡ true) → (48 ≤ r → r ≤ 53 → M.is_virtual (r - 48) ≡ true)
        → routed s.levels s.virtuals r ≡ routed z.levels z.virtuals r
    unfolding routed
    routed-same r p v =
        chosen (ltb r 48) (λ u. a.levels r (ltb-true r 48 u) (p (omega (arith, ltb-true r 48 u))))
        (λ l. chosen (ltb r 54)
        (λ u. a.virtuals (r - 48) (omega (arith, ltb-true r 54 u)) (v (omega (arith, ltb-false r 48 l)) (omega (arith, ltb-true r 54 u))))
        (λ _. refl))

    line_same : (c q : ℕ) → c < 6 → M.is_channel c ≡ true → q / 3 ≡ c → bit s.lines q ≡ bit z.lines q
    line_same c q k m d = a.lines q (omega arith) (rw d m)

    module _ (t : Settings) (closed : Closed M t) (c : ℕ) (k : c < 6) (m : M.is_channel c ≡ true)
        (me : Channel) (p : me.mode ≡ t.mode c) (q : me.route ≡ t.route c) where
      samples-same : samples_of s c me.mode me.route ≡ samples_of z c me.mode me.route
      unfolding samples_of
      samples-same =
          let x : ℕ = XS me.mode in
          let index : index_of x (bit s.lines (3 * c + 2)) s.outs s.ticks ≡ index_of x (bit z.lines (3 * c + 2)) z.outs z.ticks =
          index_same x (line_same c (3 * c + 2) k m (omega arith)) (λ l u. rw p (closed.indexing c k m (rw (sym p) l) (rw (sym p) u))) in
          let extin : routed s.levels s.virtuals me.route ≡ routed z.levels z.virtuals me.route =
          routed-same me.route
          (λ u. rw q (closed.routed_pin c k m (omega arith)))
          (λ l u. rw q (closed.routed_virtual c k m (omega arith) (omega arith))) in
          λ i. samples (line_same c (3 * c) k m (omega arith) i) (line_same c (3 * c + 1) k m (omega arith) i) (index i)
          (not (beq (extin i) (IP me.mode)))

      carried_same : (d e : ℤ) → (M.is_channel (neighbour c) ≡ true → d ≡ e) → carried_by me.mode d ≡ carried_by me.mode e
      carried_same d e h =
          chosen (eqb (K me.mode) 4)
          (λ x. h (closed.carrying c k m (let y : K (t.mode c) ≡ 4 = rw (sym p) (eqb-true (K me.mode) 4 x) in y)))
          (λ _. refl)

      inputs-same : (d e : ℤ) → (M.is_channel (neighbour c) ≡ true → d ≡ e) → inputs_of s c d me ≡ inputs_of z c e me
      unfolding inputs_of
      inputs-same d e h = λ i. inputs (samples-same i) (carried_same d e h i) (a.rises i) (a.timestamp i)

  -- ---- the whole step

  trigger-same : (expired p q : Bool) (s : Safety) → (pin_triggers s.control ≡ true → p ≡ q) → guarded expired p s ≡ guarded expired q s
  unfolding guarded
  trigger-same expired p q s h =
      ap (λ x. record { control = s.control; writes = s.writes; safemode = s.safemode || (watchdog_triggers s.control && expired) || x })
      (joint (pin_triggers s.control) (λ t. ap (λ x. beq x (active_level s.control)) (h t)))

  module _ (t : Settings) (closed : Closed M t) (b h : Board) (told : Told t b) (seen : Seen M b h) (v w y x : ℕ)
      (lines : Agree 18 bit (λ i. M.is_channel (i / 3)) v y) (external : Agree 48 bit M.is_pin w x) where
    raw_same : (p : ℕ) → p < 48 → M.is_pin p ≡ true → raw_level b.pins w p ≡ raw_level h.pins x p
    unfolding raw_level whole_at
    raw_same p k m = ap₂ ◌||◌ (external p k m) (ap (λ (q : WholePin). q.pin.driven) (seen.pins p k m))

    sensed-same : Agree 48 whole_at M.is_pin (sensed w b.pins) (sensed x h.pins)
    sensed-same p k m = sensed-at b.pins w p k ∙ ap₂ sensed_pin (raw_same p k m) (seen.pins p k m) ∙ sym (sensed-at h.pins x p k)

    abbrev level : ℕ → Board → ℕ
    level u z = (sensed u z.pins).level

    levels-same : Agree 48 bit M.is_pin (level w b) (level x h)
    unfolding whole_at pin_at
    levels-same p k m = ap (λ (q : WholePin). q.pin.level) (sensed-same p k m)

    -- the board's own part as the step leaves it
    abbrev found : ℕ → Board → Core
    found u z = core_next watched (bit (level u z) 47) z.core

    core-same : found w b ≡ found x h
    unfolding core_next
    core-same =
        ap (λ s. record { clock = advanced b.core.clock; watchdog = watched b.core.watchdog; safety = s })
        (trigger-same (has_expired (watched b.core.watchdog) 0) _ _ b.core.safety
        (λ e. levels-same 47 (omega arith) (closed.triggering (let f : pin_triggers t.control ≡ true = rw (sym told.control) e in f))))
        ∙ ap (core_next watched (bit (level x h) 47)) seen.core

    virtuals-same : Agree 6 bit M.is_virtual (virtual_levels (found w b).safety.safemode b.virtuals) (virtual_levels (found x h).safety.safemode h.virtuals)
    unfolding virtual_levels
    virtuals-same =
        words-agree 6 M.is_virtual _ _ (λ o k m. λ i. virtual_level (core-same i).safety.safemode (seen.virtuals o k m i))

    extouts-same : (cs ds : List Channel) → Agree 6 channel_in M.is_channel cs ds → Agree 6 bit M.is_channel (extouts cs) (extouts ds)
    unfolding extouts
    extouts-same cs ds a = words-agree 6 M.is_channel _ _ (λ c k m. ap (λ (z : Channel). z.extout) (a c k m))

    -- what the channels of a board see
    abbrev scene : ℕ → ℕ → Board → Scene
    scene l u z = scene_in l (sensed u z.pins) (found u z) z

    scene_same : SameScene (scene v w b) (scene y x h)
    unfolding scene_of
    scene_same = record {
      lines = lines;
      outs = extouts-same b.channels h.channels seen.channels;
      ticks = ap (λ (k : Core). ticks k.clock.prescaler) core-same;
      levels = levels-same;
      virtuals = virtuals-same;
      timestamp = ap (λ (k : Core). k.clock.timestamp) core-same;
      rises = ap (λ (k : Core). rises_at k.clock.prescaler) core-same;
    }

    channel-same : (c : ℕ) → c < 6 → M.is_channel c ≡ true → channel_next (scene v w b) b.channels c ≡ channel_next (scene y x h) h.channels c
    unfolding channel_next
    channel-same c k m =
        let own : channel_in b.channels c ≡ channel_in h.channels c = seen.channels c k m in
        let carry : ℕ → Board → ℤ = λ n z. (channel_in z.channels n).carry in
        let taken : inputs_of (scene v w b) c (carry (neighbour c) b) (channel_in b.channels c) ≡ inputs_of (scene y x h) c (carry (neighbour c) h) (channel_in b.channels c) =
        inputs-same (scene v w b) (scene y x h) scene_same t closed c k m (channel_in b.channels c) (told.mode c k) (told.route c k)
        (carry (neighbour c) b) (carry (neighbour c) h)
        (λ n. ap (λ (z : Channel). z.carry) (seen.channels (neighbour c) (neighbour-lt c k) n)) in
        ap₂ advance (taken ∙ ap (inputs_of (scene y x h) c (carry (neighbour c) h)) own) own

    all_same : Agree 6 channel_in M.is_channel (all_next (scene v w b) b.channels) (all_next (scene y x h) h.channels)
    unfolding all_next
    all_same c k m = get_or-tab 6 _ c no_channel k ∙ channel-same c k m ∙ sym (get_or-tab 6 _ c no_channel k)

    -- the ExtOuts of this step, on both boards
    module _ (o₁ o₂ : ℕ) (outs : Agree 6 bit M.is_channel o₁ o₂) (safemode : Bool) where
      sourced-same : (p : ℕ) → p < 48 → M.is_pin p ≡ true → (own : Bool) → sourced (pin_at b.pins p).source own o₁ ≡ sourced (pin_at b.pins p).source own o₂
      sourced-same p k m own =
          chosen (ltb 0 s && ltb s 7)
          (λ u. let one : 0 < s = ltb-true 0 s ((and-eq-true_iff (ltb 0 s) (ltb s 7)).0 u).0 in
          let six : s < 7 = ltb-true s 7 ((and-eq-true_iff (ltb 0 s) (ltb s 7)).0 u).1 in
          outs (s - 1) (omega arith) (bound (omega arith) (omega arith)))
          (λ _. refl)
        where
          s : ℕ
          s = (pin_at b.pins p).source

          bound : 1 ≤ s → s ≤ 6 → M.is_channel (s - 1) ≡ true
          bound = rw (told.source p k) (closed.driving p k m)

      driven-bit : (p : ℕ) → p < 48 → M.is_pin p ≡ true → driven_by o₁ safemode (pin_at (sensed w b.pins) p) ≡ driven_by o₂ safemode (pin_at (sensed x h.pins) p)
      unfolding sensed whole_at pin_at
      driven-bit p k m =
          let q : Pin = pin_at (sensed w b.pins) p in
          ap (λ s. cond (safemode && q.safeenable) q.safedata s) (sourced-same p k m q.own)
          ∙ ap (λ (z : WholePin). driven_by o₂ safemode z.pin) (sensed-same p k m)

      driven-same : Agree 48 whole_at M.is_pin (driven o₁ safemode (sensed w b.pins)) (driven o₂ safemode (sensed x h.pins))
      unfolding driven whole_at pin_at
      driven-same p k m = λ i. record {
        pin = record {
          source = (sensed-same p k m i).pin.source;
          own = (sensed-same p k m i).pin.own;
          safedata = (sensed-same p k m i).pin.safedata;
          safeenable = (sensed-same p k m i).pin.safeenable;
          level = (sensed-same p k m i).pin.level;
          driven = words-agree 48 M.is_pin _ _ driven-bit p k m i;
        };
        filter = (sensed-same p k m i).filter;
        wait = (sensed-same p k m i).wait;
      }

    pub step_same : Seen M (stepped v w b) (stepped y x h)
    unfolding stepped step_with
    step_same = record {
      channels = all_same;
      pins = λ p k m.
          driven-same _ _ (extouts-same _ _ all_same) _ p k m
          ∙ ap (λ (c : Core). whole_at (driven (extouts (all_next (scene y x h) h.channels)) c.safety.safemode (sensed x h.pins)) p) core-same;
      virtuals = seen.virtuals;
      core = core-same;
    }
