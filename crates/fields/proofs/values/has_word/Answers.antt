use Rattle.std.proofs.Common.{◌∙◌}
use Rattle.fields.proofs.Lists.{any_word}
use Rattle.fields.proofs.values.has_word.Goals as goal

pub returns : goal.returns
returns c = c.contains.ensures.value ∙ any_word c.args.words.now c.args.text.now
