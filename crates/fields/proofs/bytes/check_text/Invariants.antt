use Rattle.std.proofs.Common.{length}
use Rattle.fields.specs.Text.{bad_text}
use Rattle.fields.proofs.bytes.check_text.Given as goal

abbrev pub ghost-first_bad : goal.ghost-first_bad
ghost-first_bad a = bad_text (length a.bytes.now)
