use Rattle.std.proofs.Common.{◌∙◌}
use Rattle.fields.proofs.Lists.{any_code}
use Rattle.fields.proofs.values.has_code.Goals as goal

pub returns : goal.returns
returns c = c.contains.ensures.value ∙ any_code c.args.codes.now c.args.number
