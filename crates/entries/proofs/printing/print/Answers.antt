use Rattle.std.proofs.Common.{sym, ap, ◌∙◌}
use Rattle.records.specs.Row.{fields_of}
use Rattle.records.proofs.Options.{no_fault}
use Rattle.records.proofs.Law.{lawful_kind}
use Rattle.entries.proofs.printing.print.Goals as goal

pub print_fields-requires-clause-covers : goal.print_fields-requires-clause-covers
print_fields-requires-clause-covers g c =
    let l = g.B.Meant.meaning in
    let kind = c.in_ok-kind.ensures in
    let is = c.fields.ensures ∙ ap (fields_of l) kind.found in
    rw is (lawful_kind l g.B.Meant.lawful c.args.entry.mark (no_fault c.args.row_number _ (sym kind.refused))).0.covers
