use Rattle.standings.proofs.Keeping.{counted_more, counted_same}
use Rattle.standings.proofs.progress.Progress.counted_with.Goals as goal

pub returns-then-is_counted : goal.returns-then-is_counted
returns-then-is_counted g c es e s here = counted_more g.B.Meant.meaning c.args.self.now es s e c.args.kind.mark here c.if-is_counted.ensures

pub returns : goal.returns
returns g c es e s here = counted_same g.B.Meant.meaning c.args.self.now es s e c.args.kind.mark here c.if-is_counted.ensures
