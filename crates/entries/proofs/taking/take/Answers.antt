use Rattle.std.proofs.Common.{◌≡◌, ℕ, ◌-◌, List, None, Option, map, length, get_or, Err, sym, ap, ◌∙◌, subst, rules}
use Rattle.std.proofs.lemmas.Result.{err_from_is_err_and}
use Rattle.refusals.specs.declared.table.Refusal.{Refusal}
use Rattle.refusals.specs.Faults.{in_row, first_some}
use Rattle.fields.specs.Meaning.{field_of}
use Rattle.layouts.specs.Layout.{Layout, no_field}
use Rattle.records.specs.Row.{fields_of, mark_of, row_faults}
use Rattle.entries.specs.Taking.{entered_of, value_in, TakenAt}
use Rattle.entries.proofs.Takes.{take_past, take_held, take_value_lem}
use Rattle.entries.proofs.taking.take.Goals as goal

-- what is judged of the whole is judged of the row
of_row_lem : (l : Layout) (whole row : List ℕ) (o : Option Refusal) → whole ≡ row → o ≡ in_row 0 (first_some (row_faults l whole)) → o ≡ in_row 0 (first_some (row_faults l row))
of_row_lem l whole row o e h = rw e at h

pub returns-in_err-field : goal.returns-in_err-field
returns-in_err-field g c =
    let l = g.B.Meant.meaning in
    let row = c.args.row.now in
    let long : length row ≡ 750 = search rules in
    let same : c.in_ok-whole.whole.now ≡ row = search rules in
    let kind = c.in_ok-kind.ensures in
    let fs = map field_of c.fields.result.now in
    let is = c.fields.ensures ∙ ap (fields_of l) (kind.found ∙ ap mark_of same) in
    let none = c.in_err-field.ensures in
    let p = err_from_is_err_and c.from_residual-in_err-field.result c.from_residual-in_err-field.ensures.1 in
    let e = take_past l row long c.args.number g.B.Meant.lawful (of_row_lem l c.in_ok-whole.whole.now row None same kind.refused) fs is none.1 ∙ ap Err (sym none.0) in
    rw (p.1, p.2) (record { told = e; answer = sym e })

pub taken_from-requires-clause-held : goal.taken_from-requires-clause-held
taken_from-requires-clause-held g c =
    let l = g.B.Meant.meaning in
    let row = c.args.row.now in
    let long : length row ≡ 750 = search rules in
    let same : c.in_ok-whole.whole.now ≡ row = search rules in
    let kind = c.in_ok-kind.ensures in
    let fs = map field_of c.fields.result.now in
    let is = c.fields.ensures ∙ ap (fields_of l) (kind.found ∙ ap mark_of same) in
    let at = c.in_ok-field.ensures in
    take_held l row long c.args.number g.B.Meant.lawful (of_row_lem l c.in_ok-whole.whole.now row None same kind.refused) fs is at.0 at.1 (field_of c.in_ok-field.field) at.2

pub returns : goal.returns
returns g c =
    let l = g.B.Meant.meaning in
    let row = c.args.row.now in
    let long : length row ≡ 750 = search rules in
    let same : c.in_ok-whole.whole.now ≡ row = search rules in
    let kind = c.in_ok-kind.ensures in
    let fs = map field_of c.fields.result.now in
    let is = c.fields.ensures ∙ ap (fields_of l) (kind.found ∙ ap mark_of same) in
    let at = c.in_ok-field.ensures in
    let here = at.2 ∙ ap (λ fs. get_or (entered_of fs) (c.args.number - 1) no_field) is in
    let taken = c.taken_from.ensures in
    let e = take_value_lem l row long c.args.number g.B.Meant.lawful (of_row_lem l c.in_ok-whole.whole.now row None same kind.refused) fs is at.0 at.1 (field_of c.in_ok-field.field) at.2 (value_in c.taken_from.result) taken.value in
    record {
      told = (e, subst (λ f. TakenAt c.args.row.ref_ptr f c.taken_from.result) here taken.place);
      answer = sym e;
    }
