use Rattle.fields.specs.Field.{differs}
use Rattle.fields.proofs.bytes.check_fixed.Given as goal

abbrev pub ghost-first_bad : goal.ghost-first_bad
ghost-first_bad a = differs a.is_bad.0.now
