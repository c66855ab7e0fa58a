use Rattle.std.proofs.Common.{◌≡◌, drop}
use Rattle.records.specs.Worked.{worked_of}
use Rattle.standings.specs.Looks.{number_for, looks_at}
use Rattle.standings.proofs.Wrong.{wrong_from}
use Rattle.standings.proofs.worked.check_worked.Given as goal

abbrev pub invariant-loop-field : goal.invariant-loop-field
invariant-loop-field l = wrong_from (number_for l.look) (looks_at l.look) (worked_of l.worked) (drop l.field-index l.fields) l.next.row.now ≡ wrong_from (number_for l.look) (looks_at l.look) (worked_of l.worked) l.fields l.next.row.now
