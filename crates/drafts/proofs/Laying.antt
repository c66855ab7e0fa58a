-- What a draft's calls leave in the memory below it, one after the other.
use Rattle.std.proofs.Common.{◌≡◌, ℕ, suc, ◌+◌, List, [], ◌∷◌, ◌++◌, length, sym, ap, ◌∙◌, append_assoc, arith}
use Rattle.std.proofs.lemmas.List.{length-append}
use Rattle.rows.specs.Rows.{put, put_all}
use Rattle.drafts.specs.declared.drafts.Draft.{Draft}
use Rattle.drafts.specs.Standing.{Wrote}

put_append : (size : ℕ) (line : List ℕ → List ℕ) (xs ys : List (List ℕ)) (memory : List ℕ) (held : ℕ) → put_all size line memory held (xs ++ ys) ≡ put_all size line (put_all size line memory held xs) (held + length xs) ys
put_append size line [] ys memory held = ap (λ n. put_all size line memory n ys) (let z : held ≡ held + 0 = omega arith in z)
put_append size line (x ∷ xs) ys memory held =
    let z : held + 1 + length xs ≡ held + suc (length xs) = omega arith in
    put_append size line xs ys (put size line memory held x) (held + 1) ∙ ap (λ n. put_all size line (put_all size line (put size line memory held x) (held + 1) xs) n ys) z

module _ {B C : Type 0} {rows : C → List (List ℕ)} {memory lenders : C → List ℕ} {size : ℕ} {line : List ℕ → List ℕ} where
  pub together : (d e f : Draft B C) → Wrote rows memory lenders size line d e → Wrote rows memory lenders size line e f → Wrote rows memory lenders size line d f
  together d e f a b =
      let held = length (rows d.carrier) in
      let now : length (rows e.carrier) ≡ held + length a.added = ap length a.behind ∙ length-append (rows d.carrier) a.added in
      record {
        added = a.added ++ b.added;
        behind = b.behind ∙ ap (λ rs. rs ++ b.added) a.behind ∙ append_assoc (rows d.carrier) a.added b.added;
        lines = b.lines ∙ ap (λ m. put_all size line m (length (rows e.carrier)) b.added) a.lines ∙ ap (λ n. put_all size line (put_all size line (memory d.carrier) held a.added) n b.added) now ∙ sym (put_append size line a.added b.added (memory d.carrier) held);
        loans = b.loans ∙ a.loans;
        book = b.book ∙ a.book;
      }
