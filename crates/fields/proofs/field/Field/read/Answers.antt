use Rattle.std.proofs.Common.{◌≡◌, ◌+◌, ◌-◌, ◌^◌, ◌<◌, take, drop, Err, sym, ap, ◌∙◌, arith, rules}
use Rattle.fields.specs.Field.{read_field}
use Rattle.fields.specs.InRow.{offset, part}
use Rattle.fields.specs.Meaning.{field_of, cell_of}
use Rattle.fields.proofs.Offsets.{read_within}
use Rattle.fields.proofs.Framed.{in_row_lem, length_part, read_as, kept, told}
use Rattle.fields.proofs.field.Field.read.Goals as goal
use Rattle.std.proofs.lemmas.Result.{MatchResult-at_err, IfOk-weaker}

pub map_err-requires : goal.map_err-requires
map_err-requires c =
    let f = field_of c.args.self in
    let row = c.args.row.now in
    let a = c.args.self.start - 1 in
    let fit = sym c.if-not-fits.ensures in
    let k : a + c.args.self.width - a ≡ c.args.self.width = omega arith in
    λ e is.
    let no = MatchResult-at_err _ (λ e. read_field f (take (a + c.args.self.width - a) (drop a row)) ≡ Err e) e is c.read_part.ensures in
    let l : c.args.self.start + offset e < 2 ^ 64 = omega (arith, in_row_lem f fit, length_part f fit row c.told-row, read_within f (part f row) e (sym (ap (λ k. read_field f (take k (drop a row))) k) ∙ no)) in
    search rules

pub returns-clause-refused : goal.returns-clause-refused
returns-clause-refused c =
    let f = field_of c.args.self in
    let row = c.args.row.now in
    let a = c.args.self.start - 1 in
    let k : a + c.args.self.width - a ≡ c.args.self.width = omega arith in
    let same : read_field f (part f row) ≡ read_field f (take (a + c.args.self.width - a) (drop a row)) = sym (ap (λ k. read_field f (take k (drop a row))) k) in
    told _ _ _ f c.args.row_number (read_field f (part f row)) c.read_part.result c.map_err.result c.read_part.ensures c.map_err.ensures.cases (λ v h. (cell_of v, same ∙ h.0)) (λ e h. same ∙ h) (λ e d h. search rules)

pub returns-clause-held : goal.returns-clause-held
returns-clause-held c =
    let f = field_of c.args.self in
    let k = c.args.self.start - 1 + c.args.self.width - (c.args.self.start - 1) in
    IfOk-weaker c.map_err.result _ _
    (λ v h. read_as f (sym c.if-not-fits.ensures) c.args.row.now c.told-row c.args.row.ref_ptr k v (omega arith) h.0 h.1)
    (kept _ _ _ c.read_part.result c.map_err.result c.read_part.ensures c.map_err.ensures.cases)
