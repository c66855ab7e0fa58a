use Rattle.std.proofs.Common.{◌%◌, arith}
use Rattle.numbers.proofs.Printing.{two_digits}
use Rattle.numbers.proofs.cents.CentsDisplay.fmt.Goals as goal

pub returns-clause-writes : goal.returns-clause-writes
returns-clause-writes g c = let e = c.laid_out.ensures in rw (two_digits (c.args.self.now.value % 100) (omega arith)) at (rw e at c.write.ensures.writes)
