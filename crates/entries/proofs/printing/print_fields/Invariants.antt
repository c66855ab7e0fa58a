use Rattle.std.proofs.Common.{drop}
use Rattle.std.specs.Slice.Iter.{iter_rest}
use Rattle.records.specs.Worked.{worked_of}
use Rattle.entries.specs.Printing.{print_fields}
use Rattle.entries.proofs.Prints.{Printing}
use Rattle.entries.proofs.printing.print_fields.Given as goal

abbrev pub invariant-loop-field : goal.invariant-loop-field
invariant-loop-field l = Printing l.entry.pool.now (worked_of l.worked) (print_fields l.entry.pool.now (worked_of l.worked) l.fields l.entry.values.now) (drop l.field-index l.fields) (iter_rest l.values) l.row
