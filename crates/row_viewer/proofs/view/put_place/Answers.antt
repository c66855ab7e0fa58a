use Rattle.layouts.proofs.Within.{unread, read_inside}
use Rattle.row_viewer.proofs.view.put_place.Goals as goal

pub invariant_of-placed : goal.invariant_of-placed
invariant_of-placed g c =
    let h = read_inside g.B.Meant.meaning g.B.Meant.lawful c.in-Ok.kind.mark c.fields-fields.result.now c.fields-fields.ensures c.in-Some.i unread c.in-Some.ensures.within in
    record { from = h.from; to = h.to }
