use Rattle.std.proofs.Common.{◌≡◌, ◌++◌, vec_items}
use Rattle.std.specs.Iterator.Adapters.{zip_first, zip_second}
use Rattle.std.specs.Slice.Iter.{iter_rest}
use Rattle.columns.proofs.Tabled.{lines_of}
use Rattle.columns.proofs.tables.put_kind.Given as goal

-- what is left brings the lines to their end
abbrev pub invariant-loop-field : goal.invariant-loop-field
invariant-loop-field g l =
    vec_items l.out ++ lines_of l.letter l.kind.mark (iter_rest (zip_first l.field-iterator)) (iter_rest (zip_second l.field-iterator)) ≡
    vec_items l.initial.out ++ lines_of l.letter l.kind.mark (iter_rest (zip_first l.initial.field-iterator)) (iter_rest (zip_second l.initial.field-iterator))
