-- `kinds::fields_of` meets its contract.
-- Assumes nothing.
use Rattle.std.proofs.Common.{rules}
use Rattle.kinds.specs.Names.{field_table, fields_of}
use Rattle.kinds.proofs.fields_of.Goals as goal

pub returns : goal.returns
unfolding fields_of field_table
returns c = search rules
