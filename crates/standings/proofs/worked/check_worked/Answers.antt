use Rattle.std.proofs.Common.{Some, sym, ap, ◌∙◌}
use Rattle.refusals.specs.Faults.{in_row}
use Rattle.records.specs.Worked.{worked_of}
use Rattle.standings.specs.Looks.{number_for, looks_at}
use Rattle.standings.proofs.Wrong.{field_wrong}
use Rattle.standings.proofs.worked.check_worked.Goals as goal

pub returns-then-is_wrong : goal.returns-then-is_wrong
returns-then-is_wrong c =
    let look = c.args.look in
    let here = field_wrong (number_for look) (looks_at look) (worked_of c.args.worked) c.args.fields.now c.args.next.row.now c.loop-field.field-index _ c.loop-field-test.true c.if-is_wrong.ensures in
    ap Some c.fault.ensures ∙ ap (in_row c.args.next.number) (sym here ∙ c.loop-field.invariant)
