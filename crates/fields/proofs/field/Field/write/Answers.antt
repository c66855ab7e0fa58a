use Rattle.std.proofs.Common.{◌+◌, ◌-◌, sym, ap, ◌∙◌, arith}
use Rattle.std.proofs.lemmas.Result.{MatchResult-weaker}
use borrow.Rule.Slice.PartMut.{put_mid, put_same}
use Rattle.fields.specs.Meaning.{field_of, cell_of}
use Rattle.fields.proofs.Framed.{written_as, kept_both}
use Rattle.fields.proofs.field.Field.write.Goals as goal

pub returns-clause-written : goal.returns-clause-written
returns-clause-written c =
    let f = field_of c.args.self in
    let a = c.args.self.start - 1 in
    let k = a + c.args.self.width - a in
    let row = c.args.row.now in
    MatchResult-weaker c.map_err.result
    (kept_both _ _ _ _ c.write_part.result c.map_err.result c.write_part.ensures c.map_err.ensures.cases (λ e no. ap (put_mid a k row) no.1 ∙ put_same a k row))
    (λ _ ok. written_as f (sym c.if-not-fits.ensures) row c.told-row k c.write_part.new.part (cell_of c.args.content) (omega arith) ok)
    (λ _ same. same)
