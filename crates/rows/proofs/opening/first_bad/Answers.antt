use Rattle.std.proofs.Common.{◌≡◌, suc, ◌+◌, ◌%◌, sym, ap, ◌∙◌, ⊎_elim, rules, arith}
use Rattle.std.proofs.Math.Nat.{suc-mod}
use Rattle.std.proofs.lemmas.Bool.{cases_lt}
use Rattle.rows.proofs.opening.first_bad.Goals as goal

pub loop-i-preserved : goal.loop-i-preserved
loop-i-preserved g c =
    let size = g.F.Form.size in
    let i = c.loop-i.i in
    let before = c.loop-i.invariant in
    let one : suc i ≡ i + 1 = omega arith in
    let more : suc (i % size) ≡ i % size + 1 = omega arith in
    let next : (i + 1) % size ≡ (i % size + 1) % size = ap (λ n. n % size) (sym one) ∙ suc-mod i size ∙ ap (λ n. n % size) more in (
      (λ k h. ⊎_elim (λ less. before.0 k less) (λ rest. let e : k ≡ i = omega arith in rw e (search rules)) (cases_lt k i)),
      c.place_after-place.ensures ∙ (rw (c.line_len-size.ensures, before.1) (sym next)),
    )
