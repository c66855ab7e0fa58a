use Rattle.std.proofs.Common.{ap, rules}
use Rattle.rows.proofs.Joins.{filled_memory}
use Rattle.rows.proofs.filling.write_all.Goals as goal

pub returns : goal.returns
returns g c =
    let lent = ap (λ x. x.ghost_name) c.over-out.ensures.0 in
    let kept = c.copy_all.ensures.lenders in
    let over = c.over-out in
    let moved = c.copy_all in
    filled_memory g.F.Form.size g.F.Form.encoded g.F.Form.decoded (g.S.Source.rows c.args.from.now) _ over.result.held over.result.memory.now moved.new.to.memory.now c.args.memory.now _ moved.result
    (λ k h. g.met.F.Form.fills _ (g.S.Source.whole c.args.from.now k h)) over.ensures.1 (ap (λ x. x.now) over.ensures.0) (search rules) moved.ensures.moved moved.ensures.memory
