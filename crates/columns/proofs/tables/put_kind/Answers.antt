use Rattle.std.proofs.Common.{◌++◌, vec_items, sym, ap, ◌∙◌, append-nil, rules}
use Rattle.std.proofs.lemmas.Slice.Zip.{either_empty_from_Zip}
use Rattle.layouts.proofs.Within.{paired_inside}
use Rattle.columns.proofs.Tabled.{field_put, fields_put, kind_put}
use Rattle.columns.proofs.tables.put_kind.Goals as goal

-- the covering law keeps a field within the row
pub invariant_of-placed : goal.invariant_of-placed
invariant_of-placed g c =
    let h = paired_inside g.B.Meant.meaning g.B.Meant.lawful c.args.kind.mark c.fields-fields.result.now c.names-names.result.now c.fields-fields.ensures c.loop-field.yielded c.into_iter-field-iterator.result c.loop-field.field-iterator c.next.new.self _ (search rules) (search rules) c.loop-field.yielded_by _ c.in-Some.is c.next.ensures.steps in
    record { from = h.from; to = h.to }

pub loop-field-preserved : goal.loop-field-preserved
loop-field-preserved g c =
    field_put _ _ _ _ _ _ _ _ _ _ _ c.in-Some.ensures.steps.0 c.in-Some.ensures.steps.1 c.in_ok-put_field.ensures c.loop-field.invariant

pub returns : goal.returns
returns g c =
    let letter = c.from-letter.result in
    let mark = c.args.kind.mark in
    let done = fields_put letter mark _ _ (either_empty_from_Zip c.loop-field.field-iterator c.next.new.self _ c.in-None.is c.next.ensures.steps) in
    let all = sym (append-nil (vec_items c.loop-field.out)) ∙ ap (λ bs. vec_items c.loop-field.out ++ bs) (sym done) ∙ c.loop-field.invariant in
    rw c.from-letter.ensures at (kind_put letter mark c.fields-fields.result.now c.names-names.result.now _ c.title.result.now (vec_items c.args.out.now) (vec_items c.put_heading.new.out) (vec_items c.loop-field.out) c.fields-fields.ensures c.names-names.ensures c.in_ok-put_heading.ensures (search (rules, all)))
