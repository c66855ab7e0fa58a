use Rattle.std.proofs.Common.{refl, ap, ◌∙◌, rules}
use Rattle.records.specs.Conditions.{number_in}
use Rattle.records.specs.Held.{cell_in}
use Rattle.standings.proofs.Holding.{amount_held}
use Rattle.standings.proofs.held.amount_in.Goals as goal

pub returns-in-Some : goal.returns-in-Some
returns-in-Some g c read =
    let l = g.B.Meant.meaning in
    let row = c.args.next.row.now in
    c.number_in.ensures ∙ ap (λ f. number_in (cell_in f row)) c.field_of.ensures
    ∙ amount_held l g.B.Meant.lawful row read.good c.args.next.kind.mark read.marked l.summed refl c.in-Some.place c.in-Some.ensures (search rules)
