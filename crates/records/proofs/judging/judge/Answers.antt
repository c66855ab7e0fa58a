use Rattle.std.proofs.Common.{map, None, refl}
use Rattle.std.proofs.lemmas.Result.{err_from_is_err_and}
use Rattle.fields.specs.Meaning.{field_of}
use Rattle.records.proofs.Judged.{named, judged, found_first, found_second}
use Rattle.records.proofs.judging.judge.Goals as goal

pub returns-in_err-check_fields-clause-refused : goal.returns-in_err-check_fields-clause-refused
returns-in_err-check_fields-clause-refused g c =
    let kind = c.in_ok-kind.ensures in
    let p = err_from_is_err_and c.from_residual-in_err-check_fields.result c.from_residual-in_err-check_fields.ensures.1 in
    let told = judged g.B.Meant.meaning g.B.Meant.lawful c.args.row.now c.args.row_number c.in_ok-kind.kind.mark kind.found kind.refused (map field_of c.fields.result.now) c.fields.ensures _ refl c.told-row in
    rw (p.1, p.2, told) (found_first c.args.row_number _ _ _ c.in_err-check_fields.ensures)

pub check_conditions-requires : goal.check_conditions-requires
check_conditions-requires g c =
    let kind = c.in_ok-kind.ensures in
    named g.B.Meant.meaning g.B.Meant.lawful c.args.row.now c.args.row_number c.in_ok-kind.kind.mark kind.found kind.refused (map field_of c.fields.result.now) c.fields.ensures c.conditions.result.now c.conditions.ensures

pub returns-in_err-check_conditions-clause-refused : goal.returns-in_err-check_conditions-clause-refused
returns-in_err-check_conditions-clause-refused g c =
    let kind = c.in_ok-kind.ensures in
    let p = err_from_is_err_and c.from_residual-in_err-check_conditions.result c.from_residual-in_err-check_conditions.ensures.1 in
    let told = judged g.B.Meant.meaning g.B.Meant.lawful c.args.row.now c.args.row_number c.in_ok-kind.kind.mark kind.found kind.refused (map field_of c.fields.result.now) c.fields.ensures c.conditions.result.now c.conditions.ensures c.told-row in
    rw (p.1, p.2, told) (found_second c.args.row_number _ _ _ c.in_ok-check_fields.ensures c.in_err-check_conditions.ensures)

pub returns-clause-refused : goal.returns-clause-refused
returns-clause-refused g c =
    let kind = c.in_ok-kind.ensures in
    let told = judged g.B.Meant.meaning g.B.Meant.lawful c.args.row.now c.args.row_number c.in_ok-kind.kind.mark kind.found kind.refused (map field_of c.fields.result.now) c.fields.ensures c.conditions.result.now c.conditions.ensures c.told-row in
    rw told (found_second c.args.row_number None _ _ c.in_ok-check_fields.ensures c.in_ok-check_conditions.ensures)
