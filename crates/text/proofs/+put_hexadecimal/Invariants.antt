-- `text::put_hexadecimal` ends.
-- Assumes nothing.
use Rattle.text.proofs.+put_hexadecimal.Given as goal

abbrev pub decreases-put_hexadecimal : goal.decreases-put_hexadecimal
decreases-put_hexadecimal g l = l.k
