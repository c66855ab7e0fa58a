use Rattle.std.proofs.Common.{◌≡◌, sym, ◌∙◌, rules}
use Rattle.standings.proofs.Keeping.{tied_kept, untied}
use Rattle.standings.proofs.progress.Progress.tie.Goals as goal

pub returns : goal.returns
returns g c es s read =
    let next = c.args.next in
    let same : next.kind.mark ≡ c.in-Some.group.follower.mark = search rules in
    tied_kept g.B.Meant.meaning c.args.self.now es s next.row.now next.number c.in-Some.group (sym read.marked ∙ same) g.B.Meant.lawful read.good c.in-Some-owner.owner c.in-Some-owner.is c.in-Some.ensures _ c.bind.ensures

pub returns-in_default-owner : goal.returns-in_default-owner
returns-in_default-owner g c es s read =
    let next = c.args.next in
    let same : next.kind.mark ≡ c.in-Some.group.follower.mark = search rules in
    untied g.B.Meant.meaning c.args.self.now es s next.row.now next.number c.in-Some.group (sym read.marked ∙ same) c.in-Some.ensures c.in_default-owner.is
