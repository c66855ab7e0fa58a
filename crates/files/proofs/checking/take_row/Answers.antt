use Rattle.std.proofs.Common.{◌+◌, length, None, sym}
use Rattle.std.proofs.lemmas.Result.{err_from_is_err_and}
use Rattle.legality.specs.Checks.{read_checks, work_checks}
use Rattle.files.proofs.Stages.{all_here, worked_at, stands_at}
use Rattle.files.proofs.checking.take_row.Goals as goal

pub returns-in_err-next : goal.returns-in_err-next
returns-in_err-next g c =
    let l = g.B.Meant.meaning in
    let row = c.args.row.now in
    let p = err_from_is_err_and c.from_residual.result c.from_residual.ensures.1 in
    rw (p.1, p.2) (λ es s. sym (all_here (length es + 1) _ (read_checks l es row) (work_checks l es row) (c.in_err-next.ensures.refused es s)))

pub returns-in_err-sum : goal.returns-in_err-sum
returns-in_err-sum g c =
    let read = c.in_ok-next.ensures in
    let p = err_from_is_err_and c.from_residual-in_err-sum.result c.from_residual-in_err-sum.ensures.1 in
    rw (p.1, p.2) (λ es s. worked_at g.B.Meant.meaning es c.args.row.now c.in_ok-next.next (read.refused es s) (read.found es s) read.row _ (c.in_err-sum.ensures.refused es s))

pub returns : goal.returns
returns g c es s =
    let l = g.B.Meant.meaning in
    let row = c.args.row.now in
    let read = c.in_ok-next.ensures in
    let is = read.found es s in (
      worked_at l es row c.in_ok-next.next (read.refused es s) is read.row None (c.in_ok-sum.ensures.refused es s),
      stands_at l es row c.in_ok-next.next (read.refused es s) is read.row _ (c.advance.ensures es s is (c.in_ok-sum.ensures.sum es s is)),
    )
