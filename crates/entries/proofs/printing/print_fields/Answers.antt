use Rattle.std.proofs.Common.{◌+◌, drop}
use Rattle.std.specs.Slice.Iter.{iter_rest}
use Rattle.std.proofs.lemmas.Result.{err_from_is_err_and}
use Rattle.fields.specs.Meaning.{cell_of}
use Rattle.records.specs.Worked.{worked_of}
use Rattle.entries.specs.Printing.{print_fields}
use Rattle.entries.proofs.Prints.{printing_none, printing_at, printing_refused, printing_next}
use Rattle.entries.proofs.printing.print_fields.Goals as goal

pub loop-field-init : goal.loop-field-init
loop-field-init c = rw c.iter-values.ensures.rest (printing_none c.args.entry.pool.now (worked_of c.args.worked) c.args.fields.now c.args.entry.values.now c.args.row.now c.told-row c.requires.covers c.requires.valued)

pub returns-in_err-write-clause-refused : goal.returns-in_err-write-clause-refused
returns-in_err-write-clause-refused c =
    let e = err_from_is_err_and c.from_residual.result c.from_residual.ensures.1 in
    let pool = c.args.entry.pool.now in
    let by = worked_of c.args.worked in
    let xs = c.args.fields.now in
    let i = c.loop-field.field-index in
    let whole = print_fields pool by xs c.args.entry.values.now in
    let p = printing_at pool by whole xs i _ (iter_rest c.loop-field.values) c.loop-field.row c.loop-field-test.true c.loop-field.invariant in
    rw (e.1, e.2) (printing_refused pool by whole _ (drop (i + 1) xs) _ _ p (cell_of c.next_content-content.result) c.next_content-content.ensures.cell c.args.row_number _ c.in_err-write.ensures.refused)

pub loop-field-preserved : goal.loop-field-preserved
loop-field-preserved c =
    let pool = c.args.entry.pool.now in
    let by = worked_of c.args.worked in
    let xs = c.args.fields.now in
    let i = c.loop-field.field-index in
    let whole = print_fields pool by xs c.args.entry.values.now in
    let p = printing_at pool by whole xs i _ (iter_rest c.loop-field.values) c.loop-field.row c.loop-field-test.true c.loop-field.invariant in
    printing_next pool by whole _ (drop (i + 1) xs) _ _ p (cell_of c.next_content-content.result) c.next_content-content.ensures.cell _ _ c.next_content-content.ensures.rest c.in_ok-write.ensures.written
