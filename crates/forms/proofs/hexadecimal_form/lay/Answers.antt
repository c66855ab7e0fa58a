use Rattle.std.proofs.Common.{◌∙◌, arith}
use Rattle.std.proofs.lemmas.List.{length-set, get_or-set_same, get_or-set_other}
use Rattle.forms.specs.FormLaws.{digits_more, hex_same}
use Rattle.forms.proofs.hexadecimal_form.lay.Goals as goal

pub loop-k-preserved : goal.loop-k-preserved
loop-k-preserved c =
    let kept = c.loop-k.invariant in
    record {
      long = simp length-set kept.long;
      digits = digits_more c.args.row.now c.loop-k.out c.loop-k.k _ _ kept.long c.loop-k-test.true c.to_digit.ensures c.to_digit-in-loop-k.ensures kept.digits;
    }

pub returns : goal.returns
returns c =
    let kept = c.loop-k.invariant in
    hex_same c.args.row.now _ c.told-row (length-set c.loop-k.out 1500 10 ∙ kept.long)
    (λ k h.
    let d = kept.digits k (omega arith) in
    (get_or-set_other c.loop-k.out 1500 _ 10 0 (omega arith) ∙ d.0, get_or-set_other c.loop-k.out 1500 _ 10 0 (omega arith) ∙ d.1))
    (get_or-set_same c.loop-k.out 1500 10 0 (omega (arith, kept.long)))
