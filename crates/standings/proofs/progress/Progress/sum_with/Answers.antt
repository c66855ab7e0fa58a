use Rattle.std.proofs.Common.{List, rules}
use Rattle.records.specs.Row.{Entry}
use Rattle.standings.specs.Standing.{Stands, IsRead, entry_of_next}
use Rattle.standings.proofs.Keeping.{SumTold, sum_told}
use Rattle.standings.proofs.progress.Progress.sum_with.Goals as goal

pub returns : goal.returns
returns g c =
    let l = g.B.Meant.meaning in
    let next = c.args.next in
    let told : (es : List Entry) (s : Stands l c.args.self.now es) → IsRead l next → SumTold l c.args.self.now es s (entry_of_next l next) next.number c.ok_or_else.result = λ es s read.
    sum_told l c.args.self.now es s (entry_of_next l next) c.amount_in.result next.number (c.amount_in.ensures read) c.plus.result c.ok_or_else.result _ (λ f is. search rules) c.plus.ensures c.ok_or_else.ensures.cases in
    record { refused = λ es s read. (told es s read).refused; sum = λ es s read. (told es s read).sum }
