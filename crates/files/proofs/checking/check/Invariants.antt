use Rattle.std.proofs.Common.{◌-◌}
use Rattle.files.proofs.Stages.{TakenTo}
use Rattle.files.proofs.checking.check.Given as goal

abbrev pub invariant-loop-n : goal.invariant-loop-n
invariant-loop-n g l = TakenTo g.B.Meant.meaning (g.S.Source.rows l.source) (l.n - 1) l.progress
