-- Document 01, "In a board handed in": the range of each field of a channel, and the value that counts outside it.
-- Assumes nothing.
use Rattle.std.specs.Prelude.{ℕ, Bool, false, not, ◌&&◌, ◌||◌, [], replicate, ℤ, pos, negsuc, int_lt, nat_lt}
use Rattle.words.specs.Range.{or_reset, all_good, all_or_reset}
use Rattle.counter.specs.Mode.{good_mode}
use Rattle.counter.specs.declared.Channel.{Channel}

-- a channel at reset: all 0, the route 54
unfoldable pub reset_channel : Channel
reset_channel =
    record {
      mode = 0;
      preloads = replicate 2 0;
      compares = replicate 2 0;
      route = 54;
      mask = 0;
      count = 0;
      running = false;
      armed = false;
      second = false;
      kept = 0;
      extout = false;
      carry = pos 0;
      counts = replicate 16 0;
      timestamps = replicate 16 0;
      reasons = replicate 16 0;
      held = 0;
      lost = 0;
    }

-- a route names a pin, a virtual output or none
abbrev pub is_route : ℕ → Bool
is_route n = nat_lt n 55

-- a mask, or the reasons of a capture, a bit for each of nine
abbrev pub is_reasons : ℕ → Bool
is_reasons n = nat_lt n 512

-- A + 2 B + 4 index + 8 ExtIn
abbrev pub is_kept : ℕ → Bool
is_kept n = nat_lt n 16

-- a carry is −1, 0 or +1
abbrev pub is_carry : ℤ → Bool
is_carry d = not (int_lt d (negsuc 0) || int_lt (pos 1) d)

-- the length of a queue
abbrev pub is_held : ℕ → Bool
is_held n = nat_lt n 17

-- every field is in its range, the reasons in each of the sixteen places of the queue too
unfoldable pub channel_in_range : Channel → Bool
channel_in_range c =
    good_mode c.mode
    && is_route c.route
    && is_reasons c.mask
    && is_kept c.kept
    && is_held c.held
    && is_carry c.carry
    && all_good is_reasons 16 c.reasons

-- a channel handed in
unfoldable pub repaired : Channel → Channel
repaired c =
    record {
      mode = or_reset good_mode reset_channel.mode c.mode;
      preloads = c.preloads;
      compares = c.compares;
      route = or_reset is_route reset_channel.route c.route;
      mask = or_reset is_reasons reset_channel.mask c.mask;
      count = c.count;
      running = c.running;
      armed = c.armed;
      second = c.second;
      kept = or_reset is_kept reset_channel.kept c.kept;
      extout = c.extout;
      carry = or_reset is_carry reset_channel.carry c.carry;
      counts = c.counts;
      timestamps = c.timestamps;
      reasons = all_or_reset is_reasons 0 16 c.reasons;
      held = or_reset is_held reset_channel.held c.held;
      lost = c.lost;
    }

-- what an index outside the six channels would give; no step or call has one
abbrev pub no_channel : Channel
no_channel =
    record {
      mode = 0;
      preloads = [];
      compares = [];
      route = 0;
      mask = 0;
      count = 0;
      running = false;
      armed = false;
      second = false;
      kept = 0;
      extout = false;
      carry = pos 0;
      counts = [];
      timestamps = [];
      reasons = [];
      held = 0;
      lost = 0;
    }
