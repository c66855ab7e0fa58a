use Rattle.std.proofs.Common.{sym, refl, ap, subst}
use Rattle.standings.specs.Standing.{entry_of_next}
use Rattle.standings.proofs.Keeping.{OwnerAfter, owner_new, owner_old, advanced}
use Rattle.standings.proofs.progress.Progress.advance.Goals as goal
use Rattle.standings.proofs.progress.Progress.advance.Goals.{then-is_owner, else-is_owner}

pub returns : goal.returns
returns g c es s is sum =
    let l = g.B.Meant.meaning in
    let n = c.args.next.number in
    let kind = c.args.next.kind in
    let row = c.args.next.row.now in
    let e = entry_of_next l c.args.next in
    let owner : OwnerAfter l c.args.self.now es s n kind row is c.if-is_owner.self.owner =
    elim c.if-is_owner.branch [
      | then-is_owner w ↦ subst (OwnerAfter l c.args.self.now es s n kind row is) (sym (ap (λ x. x.owner) w.self-is)) (owner_new l c.args.self.now es s n kind row is (sym w.if-is_owner.ensures))
      | else-is_owner w ↦ subst (OwnerAfter l c.args.self.now es s n kind row is) (sym (ap (λ x. x.owner) w.self-is)) (owner_old l c.args.self.now es s n kind row is (sym w.if-is_owner.ensures))
    ] in
    advanced l c.args.self.now es s n kind row is _ refl refl owner (c.following_with-following.ensures es e s is.marked) sum (c.counted_with-counted.ensures es e s is.marked)
