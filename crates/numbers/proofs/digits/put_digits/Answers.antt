use Rattle.std.proofs.Common.{◌-◌, arith}
use Rattle.numbers.proofs.Writing as writing
use Rattle.numbers.proofs.digits.put_digits.Goals as goal

pub loop-i-preserved : goal.loop-i-preserved
loop-i-preserved c = writing.more c.loop-i.field c.loop-i.i (c.loop-i.i - 1) c.loop-i.rest c.args.number (omega arith) (omega arith) c.loop-i.invariant
