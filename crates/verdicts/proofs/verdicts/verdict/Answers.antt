use Rattle.std.proofs.Common.{get_or, sym, ap}
use Rattle.verdicts.proofs.Heads.{of_none}
use Rattle.verdicts.proofs.verdicts.verdict.Goals as goal

pub returns-in_default-try_from : goal.returns-in_default-try_from
returns-in_default-try_from c =
    let input = c.args.input.now in
    sym (of_none input c.if-input-gt-LARGEST_INPUT.false (λ l lines is. c.in_default-try_from.ensures l (ap (λ i. get_or i 0 0) (sym is))))
