use Rattle.std.proofs.Common.{◌≡◌, ℕ, List, [], ◌∷◌, ◌++◌, length, drop, arith}
use Rattle.std.proofs.lemmas.List.{take_at, drop_at, drop_all, length-drop}
use borrow.Rule.Slice.PartMut.{put_mid}
use Rattle.forms.specs.Forms.{lined}
use Rattle.forms.proofs.lined_form.LinedForm.write.Goals as goal

-- CR and LF behind the row's bytes
ended : (r rest : List ℕ) → length r ≡ 750 → length rest ≡ 2 → put_mid 750 2 (r ++ rest) (13 ∷ 10 ∷ []) ≡ lined r
ended r rest h two =
    let front = take_at r rest 750 h in
    let back : drop 2 (drop 750 (r ++ rest)) ≡ [] = rw (drop_at r rest 750 h) (drop_all 2 rest (omega arith)) in
    cc

pub returns-in-Some : goal.returns-in-Some
returns-in-Some c =
    let is = c.in-Some.ensures.cases in
    let row = c.copy_from_slice.ensures.after in
    let two = c.copy_from_slice-in-Some.ensures.after in
    (λ _. rw (row, two) (ended c.args.row.now (drop 750 c.in-Some.line.now) c.told-row (omega (arith, is.long, length-drop 750 c.in-Some.line.now))), λ not. absurd (not is.long))
