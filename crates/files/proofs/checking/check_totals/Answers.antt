use Rattle.std.proofs.lemmas.Result.{err_from_is_err_and}
use Rattle.legality.specs.Checks.{is_total, is_count}
use Rattle.files.proofs.Stages.{here, skip, only, wrong_held}
use Rattle.files.proofs.checking.check_totals.Goals as goal

pub returns-in_err-check_worked : goal.returns-in_err-check_worked
returns-in_err-check_worked g c =
    let p = err_from_is_err_and c.from_residual.result c.from_residual.ensures.1 in
    rw (p.1, p.2) (λ es s is sum. here c.args.next.number _ _ _ (wrong_held g.B.Meant.meaning g.B.Meant.lawful es c.args.next is _ c.fields.ensures 24 is_total c.worked-worked.result (λ k _. c.worked-worked.ensures.all es _ s is.number is.marked sum k) _ c.in_err-check_worked.ensures))

pub returns : goal.returns
returns g c es s is sum =
    let held = wrong_held g.B.Meant.meaning g.B.Meant.lawful es c.args.next is in
    let right = c.worked-worked.ensures.all es _ s is.number is.marked sum in
    skip c.args.next.number _ _ _
    (held _ c.fields.ensures 24 is_total c.worked-worked.result (λ k _. right k) _ c.in_ok-check_worked.ensures)
    (only c.args.next.number _ _ (held _ c.fields-2.ensures 25 is_count c.worked-worked.result (λ k _. right k) _ c.check_worked-2.ensures))
