-- A field in its row: what its part is, and what a write to it leaves.
use Rattle.std.proofs.Common.{◌≡◌, ℕ, ◌+◌, ◌-◌, ◌≤◌, true, List, ◌++◌, length, take, drop, Some, Ok, Err, Result, MatchResult, IsErrAnd, IfOk, sym, ap, ◌∙◌, subst, arith}
use borrow.Rule.Slice.PartMut.{put_mid}
use Rattle.std.proofs.lemmas.List.{drop-drop, length-take-le, take_all}
use Rattle.std.proofs.lemmas.Grind.{common_steps}
use Rattle.refusals.specs.declared.field.FieldFault.{FieldFault}
use Rattle.refusals.specs.Refusals.{of_field, refusal_in}
use Rattle.fields.specs.declared.flaws.Flaw.{Flaw}
use Rattle.fields.specs.declared.flaws.Flaw.TheVariants.{Unfit}
use Rattle.fields.specs.declared.field.Content.{Content}
use Rattle.fields.specs.declared.field.Content.TheVariants.{Fixed, Number, Text}
use Rattle.refusals.specs.Faults.{in_row, fault_in}
use Rattle.fields.specs.Field.{Field, Family, family, txt, Cell, fits, raw_read, gate, read_field, write_field}
use Rattle.fields.specs.InRow.{located, at_field, part, placed, LiesAt, FrontOf, ReadAs, WrittenAs}
use Rattle.fields.specs.Meaning.{cell_of}
use Rattle.fields.proofs.Results.{then_ok, passed}
use Rattle.fields.proofs.Trim.{text_len-le}
use Rattle.fields.proofs.Fields.{through, field_law}

pub in_row_lem : (f : Field) → fits f ≡ true → (1 ≤ f.start) × (f.start + f.width ≤ 751)
in_row_lem f fit = (grind (arith, common_steps), grind (arith, common_steps))

-- a text that is read is the front of its field
raw_front : (a : Family) (bs t : List ℕ) → raw_read a bs ≡ Ok (Some (txt t)) → t ≡ take (length t) bs
raw_front a bs t ok = grind (arith, common_steps, text_len-le, length-take-le, take_all)

front : (f : Field) (bs : List ℕ) (content : Content) → read_field f bs ≡ Ok (cell_of content) → FrontOf bs content
front f bs Fixed ok = tt
front f bs (Number n) ok = tt
front f bs (Text t) ok =
    let p = then_ok (raw_read (family f.sort) bs) (gate f.sort f.required) _ (passed (fits f) Unfit _ _ ok).1 in
    raw_front (family f.sort) bs t.now (p.1 ∙ ap Ok (sym (through f.sort f.required p.0 _ p.2)))

module _ (f : Field) (fit : fits f ≡ true) (row : List ℕ) (whole : length row ≡ 750) where
  pub length_part : length (part f row) ≡ f.width
  length_part = let p = in_row_lem f fit in grind (arith, common_steps, p.0, p.1)

  part_placed : (bs : List ℕ) → length bs ≡ f.width → part f (placed f row bs) ≡ bs
  part_placed bs l = let p = in_row_lem f fit in grind (arith, common_steps, p.0, p.1)

  -- what the loan of the part leaves, k being its length as the program reckons it
  pub put_placed : (k : ℕ) (bs : List ℕ) → k ≡ f.width → put_mid (f.start - 1) k row bs ≡ placed f row bs
  put_placed k bs e = ap (λ k. put_mid (f.start - 1) k row bs) e ∙ ap (λ z. take (f.start - 1) row ++ (bs ++ z)) (drop-drop f.width (f.start - 1) row)

  pub written_as : (k : ℕ) (bs : List ℕ) (v : Cell) → k ≡ f.width → write_field f v ≡ Ok bs → WrittenAs f row (put_mid (f.start - 1) k row bs) v
  written_as k bs v e ok =
      let after = put_placed k bs e in
      let law = (field_law f bs v).1 ok in
      let is : part f (put_mid (f.start - 1) k row bs) ≡ bs = ap (part f) after ∙ part_placed bs law.0 in
      record {
        written = ok ∙ ap Ok (sym is);
        again = ap (read_field f) is ∙ law.1;
        framed = after ∙ ap (placed f row) (sym is);
      }

  pub read_as : (p : ℕ × ℕ) (k : ℕ) (content : Content) → k ≡ f.width → read_field f (take k (drop (f.start - 1) row)) ≡ Ok (cell_of content) → LiesAt (p.0, f.start - 1 + p.1) content → ReadAs f p row content
  read_as p k content e ok place =
      let read = subst (λ k. read_field f (take k (drop (f.start - 1) row)) ≡ Ok (cell_of content)) e ok in
      record {
        read = read;
        again = (field_law f (part f row) (cell_of content)).0 (length_part, read);
        place = place;
        front = front f (part f row) content read;
      }

-- an answer whose refusals were located: what it holds, and what it tells of refusals
module _ {A : Type 0} (P : A → Type 0) (Q : Flaw → Type 0) (Post : Flaw → FieldFault → Type 0) where
  pub kept : (r : Result A Flaw) (s : Result A FieldFault) → MatchResult r P Q → MatchResult r (λ x. s ≡ Ok x) (λ e. IsErrAnd s (Post e)) → IfOk s P
  kept (Ok x) s p h = subst (λ s. IfOk s P) (sym h) p
  kept (Err e) (Ok x) p h = absurd h
  kept (Err e) (Err d) p h = tt

  pub kept_both : (R : Type 0) (r : Result A Flaw) (s : Result A FieldFault) → MatchResult r P Q → MatchResult r (λ x. s ≡ Ok x) (λ e. IsErrAnd s (Post e)) → ((e : Flaw) → Q e → R) → MatchResult s P (λ _. R)
  kept_both R (Ok x) s p h back = subst (λ s. MatchResult s P (λ _. R)) (sym h) p
  kept_both R (Err e) (Ok x) p h back = absurd h
  kept_both R (Err e) (Err d) p h back = back e p

  pub told : {B : Type 0} (f : Field) (n : ℕ) (q : Result B Flaw) (r : Result A Flaw) (s : Result A FieldFault)
      → MatchResult r P Q
      → MatchResult r (λ x. s ≡ Ok x) (λ e. IsErrAnd s (Post e))
      → ((x : A) → P x → (y : B) × (q ≡ Ok y))
      → ((e : Flaw) → Q e → q ≡ Err e)
      → ((e : Flaw) (d : FieldFault) → Post e d → Some (of_field d) ≡ in_row n (Some (located f e)))
      → refusal_in of_field s ≡ in_row n (fault_in (at_field f q))
  told f n q (Ok x) s p h ok err post = let is = (ok x p).1 in rw (h, is)
  told f n q (Err e) (Ok x) p h ok err post = absurd h
  told f n q (Err e) (Err d) p h ok err post = rw (err e p) (post e d h)
