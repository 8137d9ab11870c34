-- `kinds::put_raw_name` meets its contract.
-- Assumes nothing.
use Rattle.std.proofs.Common.{refl}
use Rattle.words.specs.Table.{tab}
use Rattle.scan.specs.Bytes.{ascii}
use Rattle.kinds.specs.Names.{raw_name}
use Rattle.kinds.proofs.put_raw_name.Goals as goal

pub returns-clause-wrote : goal.returns-clause-wrote
unfolding raw_name ascii tab
returns-clause-wrote c = (refl, rw (← c.as_bytes.ensures.value) c.copy_to.ensures)
