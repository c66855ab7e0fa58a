use Rattle.fields.proofs.Reading.{Sofar}
use Rattle.fields.proofs.digits.number_of.Given as goal

abbrev pub invariant-loop-digit : goal.invariant-loop-digit
invariant-loop-digit l = Sofar l.digits l.digit-index l.number
