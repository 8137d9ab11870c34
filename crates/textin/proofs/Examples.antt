-- The table of lines, computed on the definition.
-- Assumes nothing.
use Rattle.std.proofs.Common.{refl}
use Rattle.words.specs.Bits.{bit, word}
use Rattle.words.specs.Table.{tab}
use Rattle.scan.specs.Bytes.{ascii, same}
use Rattle.scan.specs.Parts.{parts, between, before, over}
use Rattle.scan.specs.Numbers.{worth, extended, figure, number}
use Rattle.kinds.specs.Names.{names, raw_name, kind_in, kind_of, field_table, fields_of, letter, input_at, input_of}
use Rattle.textin.specs.Readings.{with_field, room, raised, wanted_by, spoilt, begun, take_kind, take_field, take_star, take_last, take_input, take_step, take_times, take_at, take_some, take_word, wanted_field, whole, said_at, finished, line_of}
use Rattle.textin.specs.Examples.{table, Computed}

pub computed : Computed
unfolding table bit word tab ascii same parts between before over worth extended figure number names raw_name kind_in kind_of field_table fields_of letter input_at input_of with_field room raised wanted_by spoilt begun take_kind take_field take_star take_last take_input take_step take_times take_at take_some take_word wanted_field whole said_at finished line_of
computed = refl
