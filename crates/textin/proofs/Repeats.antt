-- Laws of the record of an event, so many times.
-- Assumes nothing.
use Rattle.std.proofs.Common.{◌≡◌, ℕ, ◌+◌, ◌*◌, ◌≤◌, List, length, sym, ap, ◌∙◌, arith}
use Rattle.buffers.specs.Pieces.{put, joined}
use Rattle.buffers.proofs.Put.{put-put}
use Rattle.buffers.proofs.Joined.{joined-more, length-joined}
use Rattle.calls.specs.declared.Event.{Event}
use Rattle.records.specs.Records.{record_of}
use Rattle.records.proofs.Records.{length-record}

abbrev pub repeated : ℕ → Event → List ℕ
repeated n e = joined n (λ j. record_of e)

pub length-repeated : (n : ℕ) (e : Event) → length (repeated n e) ≡ 16 * n
length-repeated n e = length-joined 16 n (λ j. record_of e) (λ j h. length-record e)

-- with one record more behind them
pub repeated-more : (d : List ℕ) (at i to : ℕ) (e : Event) → to ≡ at + 16 * i → to + 16 ≤ length d
    → put (put d at (repeated i e)) to (record_of e) ≡ put d at (repeated (i + 1) e)
repeated-more d at i to e p h =
    put-put d at (repeated i e) (record_of e) to (omega (arith, length-repeated i e)) (omega (arith, length-record e)) ∙ ap (put d at) (sym (joined-more i _))
