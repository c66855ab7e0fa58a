use Rattle.fields.specs.Digits.{no_digit}
use Rattle.fields.proofs.bytes.check_digits.Given as goal

abbrev pub ghost-first_bad : goal.ghost-first_bad
ghost-first_bad _ = no_digit
