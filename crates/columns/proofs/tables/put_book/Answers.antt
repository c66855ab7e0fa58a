use Rattle.std.proofs.Common.{List, vec_items, subst}
use Rattle.books.specs.Letters.{byte_of}
use Rattle.layouts.specs.Meaning.{kind_with}
use Rattle.layouts.specs.declared.kinds.Kind.{Kind}
use Rattle.columns.specs.Tables.{KindsText, Wrote}
use Rattle.columns.proofs.Tabled.{kind_tabled, all_tabled}
use Rattle.columns.proofs.tables.put_book.Goals as goal

pub loop-kind-preserved : goal.loop-kind-preserved
loop-kind-preserved g c =
    kind_tabled (byte_of c.args.letter) g.B.Meant.meaning c.kinds-kind-items.result.now c.loop-kind.kind-index (kind_with 0) _ _ _ c.loop-kind-test.true c.loop-kind.invariant c.in_ok-put_kind.ensures

pub returns : goal.returns
returns g c =
    let letter = byte_of c.args.letter in
    let l = g.B.Meant.meaning in
    let before = vec_items c.args.out.now in
    let after = vec_items c.loop-kind.out in
    subst (λ (ks : List Kind). Wrote before after (KindsText letter l ks)) c.kinds-kind-items.ensures
    (all_tabled letter l c.kinds-kind-items.result.now c.loop-kind.kind-index before after c.loop-kind-test.false c.loop-kind.invariant)
