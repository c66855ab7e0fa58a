use Rattle.std.proofs.Common.{◌≡◌, ◌+◌, ◌-◌, ◌≤◌, length, Err, refl, ap, ◌∙◌, arith}
use Rattle.std.proofs.lemmas.Result.{err_from_is_err_and}
use Rattle.refusals.specs.Refusals.{of_file}
use Rattle.legality.specs.File.{checked}
use Rattle.files.specs.Told.{told}
use Rattle.files.proofs.Stages.{taken_more, taken_stops, taken_all}
use Rattle.files.proofs.Telling.{says}
use Rattle.files.proofs.checking.check.Goals as goal
use Rattle.files.proofs.checking.check.Goals.{else-loop-n-test, then-loop-n-test+in_ok-take_row+else-n-count}

pub loop-n-init : goal.loop-n-init
loop-n-init g c = record { stands = c.new-progress.ensures g.B.Meant.meaning; rest = refl }

pub loop-n-preserved : goal.loop-n-preserved
loop-n-preserved g c = taken_more g.B.Meant.meaning (g.S.Source.rows c.args.source.now) c.loop-n.n _ _ _ _ c.unwrap.ensures c.copy_row.ensures c.loop-n.progress c.loop-n.invariant _ c.in_ok-take_row.ensures

pub returns-in_err-take_row : goal.returns-in_err-take_row
returns-in_err-take_row g c =
    let l = g.B.Meant.meaning in
    let rows = g.S.Source.rows c.args.source.now in
    let n = c.loop-n.n in
    let p = err_from_is_err_and c.from_residual.result c.from_residual.ensures.1 in
    let stop = taken_stops l rows n _ _ _ _ c.unwrap.ensures c.copy_row.ensures c.loop-n.progress c.loop-n.invariant _ c.in_err-take_row.ensures in
    let answer : told c.from_residual.result ≡ checked l rows = ap told p.1 ∙ ap (λ f. Err (of_file f)) p.2 ∙ stop in
    says l g.B.Meant.lawful rows (g.S.Source.whole c.args.source.now) _ answer

pub returns : goal.returns
returns g c =
    let l = g.B.Meant.meaning in
    let rows = g.S.Source.rows c.args.source.now in
    let n = c.loop-n.n in
    let answer : told c.finish.result ≡ checked l rows =
    elim c.loop-n-test.branch [
      | else-loop-n-test w ↦
          let end : length rows ≤ n - 1 = omega (arith, c.count-count.ensures) in
          taken_all l rows (n - 1) c.loop-n.progress _ w.progress-is end c.loop-n.invariant _ c.finish.ensures
      | then-loop-n-test+in_ok-take_row+else-n-count w ↦
          let end : length rows ≤ n + 1 - 1 = omega (arith, c.count-count.ensures) in
          taken_all l rows (n + 1 - 1) _ _ w.progress-is end (taken_more l rows n _ _ _ _ w.unwrap.ensures w.copy_row.ensures c.loop-n.progress c.loop-n.invariant _ w.in_ok-take_row.ensures) _ c.finish.ensures
    ] in
    says l g.B.Meant.lawful rows (g.S.Source.whole c.args.source.now) _ answer
