use Rattle.std.proofs.Common.{take, sym, ap, rules}
use Rattle.fields.proofs.Trim.{last_kept, none_kept}
use Rattle.fields.proofs.texts.trim.Goals as goal

pub returns-in-Some-clause-bytes : goal.returns-in-Some-clause-bytes
returns-in-Some-clause-bytes c =
    let bs = c.args.field.now in
    ap (λ n. take n bs) (sym (last_kept bs c.in-Some.last (search rules) (search rules) (search rules)))

pub returns-in-None-clause-bytes : goal.returns-in-None-clause-bytes
returns-in-None-clause-bytes c = let bs = c.args.field.now in ap (λ n. take n bs) (sym (none_kept bs (search rules)))
