use Rattle.std.proofs.Common.{sym, ap, ◌∙◌, subst}
use Rattle.verdicts.specs.Conferred.{Conferred}
use Rattle.verdicts.specs.Printed.{line_of}
use Rattle.verdicts.proofs.Conferring.{conferred}
use Rattle.verdicts.proofs.lines.confer.Goals as goal

pub returns-clause-law : goal.returns-clause-law
returns-clause-law c = subst (Conferred c.args.input.now) (sym (c.telling.ensures ∙ ap line_of c.verdict.ensures)) (conferred c.args.input.now)
