use Rattle.numbers.proofs.Writing.{Wrote}
use Rattle.numbers.proofs.digits.put_digits.Given as goal

abbrev pub invariant-loop-i : goal.invariant-loop-i
invariant-loop-i l = Wrote l.field l.i l.rest l.number
