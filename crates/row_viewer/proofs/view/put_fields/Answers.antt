use Rattle.std.proofs.Common.{rules}
use Rattle.layouts.proofs.Within.{paired_inside}
use Rattle.row_viewer.proofs.view.put_fields.Goals as goal

-- the covering law keeps a field within the row
pub invariant_of-placed : goal.invariant_of-placed
invariant_of-placed g c =
    let h = paired_inside g.B.Meant.meaning g.B.Meant.lawful c.args.kind.mark c.fields-fields.result.now c.names-names.result.now c.fields-fields.ensures c.loop-field.yielded c.into_iter-field-iterator.result c.loop-field.field-iterator c.next.new.self _ (search rules) (search rules) c.loop-field.yielded_by _ c.in-Some.is c.next.ensures.steps in
    record { from = h.from; to = h.to }
