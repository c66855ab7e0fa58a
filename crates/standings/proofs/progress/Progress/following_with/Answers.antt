use Rattle.standings.proofs.Keeping.{following_none, following_more, following_same}
use Rattle.standings.proofs.progress.Progress.following_with.Goals as goal

pub returns-then-is_owner : goal.returns-then-is_owner
returns-then-is_owner g c es e s here = following_none g.B.Meant.meaning c.args.self.now es s e c.args.kind.mark here c.if-is_owner.ensures

pub returns-then-is_follower : goal.returns-then-is_follower
returns-then-is_follower g c es e s here = following_more g.B.Meant.meaning c.args.self.now es s e c.args.kind.mark here c.if-is_owner.ensures c.if-is_follower.ensures

pub returns : goal.returns
returns g c es e s here = following_same g.B.Meant.meaning c.args.self.now es s e c.args.kind.mark here c.if-is_owner.ensures c.if-is_follower.ensures
