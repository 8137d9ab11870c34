-- A channel's record with some of its fields changed, a definition for each group of fields that changes together.
-- Assumes nothing.
use Rattle.std.specs.Prelude.{ℕ, Bool, false, List, ℤ}
use Rattle.counter.specs.declared.Channel.{Channel}

-- the mode word, with preload 0 the selected one
abbrev pub with_mode : ℕ → Channel → Channel
with_mode m c =
    record {
      mode = m;
      preloads = c.preloads;
      compares = c.compares;
      route = c.route;
      mask = c.mask;
      count = c.count;
      running = c.running;
      armed = c.armed;
      second = false;
      kept = c.kept;
      extout = c.extout;
      carry = c.carry;
      counts = c.counts;
      timestamps = c.timestamps;
      reasons = c.reasons;
      held = c.held;
      lost = c.lost;
    }

-- the two preload registers
abbrev pub with_preloads : List ℕ → Channel → Channel
with_preloads l c =
    record {
      mode = c.mode;
      preloads = l;
      compares = c.compares;
      route = c.route;
      mask = c.mask;
      count = c.count;
      running = c.running;
      armed = c.armed;
      second = c.second;
      kept = c.kept;
      extout = c.extout;
      carry = c.carry;
      counts = c.counts;
      timestamps = c.timestamps;
      reasons = c.reasons;
      held = c.held;
      lost = c.lost;
    }

-- the two compare registers
abbrev pub with_compares : List ℕ → Channel → Channel
with_compares l c =
    record {
      mode = c.mode;
      preloads = c.preloads;
      compares = l;
      route = c.route;
      mask = c.mask;
      count = c.count;
      running = c.running;
      armed = c.armed;
      second = c.second;
      kept = c.kept;
      extout = c.extout;
      carry = c.carry;
      counts = c.counts;
      timestamps = c.timestamps;
      reasons = c.reasons;
      held = c.held;
      lost = c.lost;
    }

-- the ExtIn route
abbrev pub with_route : ℕ → Channel → Channel
with_route n c =
    record {
      mode = c.mode;
      preloads = c.preloads;
      compares = c.compares;
      route = n;
      mask = c.mask;
      count = c.count;
      running = c.running;
      armed = c.armed;
      second = c.second;
      kept = c.kept;
      extout = c.extout;
      carry = c.carry;
      counts = c.counts;
      timestamps = c.timestamps;
      reasons = c.reasons;
      held = c.held;
      lost = c.lost;
    }

-- the snapshot mask
abbrev pub with_mask : ℕ → Channel → Channel
with_mask n c =
    record {
      mode = c.mode;
      preloads = c.preloads;
      compares = c.compares;
      route = c.route;
      mask = n;
      count = c.count;
      running = c.running;
      armed = c.armed;
      second = c.second;
      kept = c.kept;
      extout = c.extout;
      carry = c.carry;
      counts = c.counts;
      timestamps = c.timestamps;
      reasons = c.reasons;
      held = c.held;
      lost = c.lost;
    }

-- running and armed
abbrev pub with_run : Bool → Bool → Channel → Channel
with_run r a c =
    record {
      mode = c.mode;
      preloads = c.preloads;
      compares = c.compares;
      route = c.route;
      mask = c.mask;
      count = c.count;
      running = r;
      armed = a;
      second = c.second;
      kept = c.kept;
      extout = c.extout;
      carry = c.carry;
      counts = c.counts;
      timestamps = c.timestamps;
      reasons = c.reasons;
      held = c.held;
      lost = c.lost;
    }

-- what a preload changes: the count, the selection, armed
abbrev pub with_load : ℕ → Bool → Bool → Channel → Channel
with_load n s a c =
    record {
      mode = c.mode;
      preloads = c.preloads;
      compares = c.compares;
      route = c.route;
      mask = c.mask;
      count = n;
      running = c.running;
      armed = a;
      second = s;
      kept = c.kept;
      extout = c.extout;
      carry = c.carry;
      counts = c.counts;
      timestamps = c.timestamps;
      reasons = c.reasons;
      held = c.held;
      lost = c.lost;
    }

-- the capture queue
abbrev pub with_queue : List ℕ → List ℕ → List ℕ → ℕ → Channel → Channel
with_queue ns ts rs h c =
    record {
      mode = c.mode;
      preloads = c.preloads;
      compares = c.compares;
      route = c.route;
      mask = c.mask;
      count = c.count;
      running = c.running;
      armed = c.armed;
      second = c.second;
      kept = c.kept;
      extout = c.extout;
      carry = c.carry;
      counts = ns;
      timestamps = ts;
      reasons = rs;
      held = h;
      lost = c.lost;
    }

-- the lost count
abbrev pub with_lost : ℕ → Channel → Channel
with_lost n c =
    record {
      mode = c.mode;
      preloads = c.preloads;
      compares = c.compares;
      route = c.route;
      mask = c.mask;
      count = c.count;
      running = c.running;
      armed = c.armed;
      second = c.second;
      kept = c.kept;
      extout = c.extout;
      carry = c.carry;
      counts = c.counts;
      timestamps = c.timestamps;
      reasons = c.reasons;
      held = c.held;
      lost = n;
    }

-- what a step changes besides the queue
abbrev pub with_step : ℕ → ℤ → Bool → Bool → Bool → ℕ → Channel → Channel
with_step n d a s x k c =
    record {
      mode = c.mode;
      preloads = c.preloads;
      compares = c.compares;
      route = c.route;
      mask = c.mask;
      count = n;
      running = c.running;
      armed = a;
      second = s;
      kept = k;
      extout = x;
      carry = d;
      counts = c.counts;
      timestamps = c.timestamps;
      reasons = c.reasons;
      held = c.held;
      lost = c.lost;
    }
