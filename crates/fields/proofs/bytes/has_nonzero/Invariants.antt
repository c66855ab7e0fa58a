use Rattle.fields.specs.Field.{no_zero}
use Rattle.fields.proofs.bytes.has_nonzero.Given as goal

abbrev pub ghost-first_bad : goal.ghost-first_bad
ghost-first_bad _ = no_zero
