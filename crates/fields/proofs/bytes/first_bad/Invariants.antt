use Rattle.fields.proofs.Finding.{NoneBefore}
use Rattle.fields.proofs.bytes.first_bad.Given as goal

abbrev pub invariant-loop-place : goal.invariant-loop-place
invariant-loop-place g l = NoneBefore g.bad l.bytes l.place
