-- What single fields of a good row hold: what the row's entry has there.
use Rattle.std.proofs.Common.{◌≡◌, ℕ, ◌<◌, cond, List, [], ◌∷◌, length, Some, None, Option, sym, refl, ap, ◌∙◌, subst}
use Rattle.std.proofs.lemmas.Bool.{eq-eqb}
use Rattle.fields.specs.Field.{Sort, text, amount}
use Rattle.layouts.specs.Layout.{Layout, Place, field_at}
use Rattle.layouts.specs.Lawful.{NotWorked, Names, CodeSort, Lawful}
use Rattle.layouts.specs.Meaning.{place_in}
use Rattle.layouts.specs.declared.kinds.Place as program
use Rattle.records.specs.Conditions.{number_in, cell_at, number_at}
use Rattle.records.specs.Held.{cell_in, fields_fault, digits_held}
use Rattle.records.specs.Row.{fields_of, contents, mark10, mark_of, entry_of, digits_of, row_faults}
use Rattle.records.proofs.Options.{some_none, none_all}
use Rattle.records.proofs.Judged.{fault_held, held_entered, held_worked}
use Rattle.legality.specs.Before.{amount_at}
use Rattle.standings.specs.Standing.{Good}

pub some_is : {X : Type 0} {x y : X} → Some x ≡ Some y → x ≡ y
some_is e = cc

pub amount_unworked : (s : Sort) → s ≡ amount → NotWorked s
amount_unworked s e k h = absurd (cc)

pub text_unworked : (s : Sort) → s ≡ text → NotWorked s
text_unworked s e k h = absurd (cc)

pub code_unworked : (s : Sort) → CodeSort s → NotWorked s
code_unworked s e k h = let i = e.1 in absurd (cc)

module _ (l : Layout) (law : Lawful l) (row : List ℕ) (good : Good l row) (m : ℕ) (here : m ≡ mark_of row) where
  known : mark10 l (mark_of row) ≡ None
  known = (none_all (row_faults l row) good.sound).0

  sound : fields_fault (fields_of l (mark_of row)) row ≡ None
  sound = sym (fault_held l law row known) ∙ (none_all (row_faults l row) good.sound).1.0

  pub holds : (i : ℕ) → i < length (fields_of l m) → NotWorked (field_at (fields_of l m) i).sort → cell_in (field_at (fields_of l m) i) row ≡ cell_at (contents l (entry_of l row)) i
  holds =
      let Holds : ℕ → Type 0 = λ m. (i : ℕ) → i < length (fields_of l m) → NotWorked (field_at (fields_of l m) i).sort → cell_in (field_at (fields_of l m) i) row ≡ cell_at (contents l (entry_of l row)) i in
      subst Holds (sym here) (held_entered l law row good.long known sound)

  pub digits_held_lem : digits_held (fields_of l m) row ≡ digits_of l row
  digits_held_lem = ap (λ m. digits_held (fields_of l m) row) here ∙ sym (held_worked l law row good.long known sound)

  pub amount_held : (summed : Option Place) → l.summed ≡ summed → (place : program.Place) → Some place ≡ place_in summed → m ≡ place.kind.mark → number_in (cell_in (field_at (fields_of l m) place.field) row) ≡ amount_at l summed (entry_of l row)
  amount_held None e place is same = some_none is
  amount_held (Some p) e place is same =
      let k : m ≡ p.kind = same ∙ ap (λ q. q.kind.mark) (some_is is) in
      let f : place.field ≡ p.field = ap (λ q. q.field) (some_is is) in
      let names : Names (fields_of l m) p.field (λ s. s ≡ amount) = subst (λ m. Names (fields_of l m) p.field (λ s. s ≡ amount)) (sym k) (law.summed p e).1 in
      ap (λ i. number_in (cell_in (field_at (fields_of l m) i) row)) f
      ∙ ap number_in (holds p.field names.0 (amount_unworked _ names.1))
      ∙ sym (ap (λ b. cond b (number_at (contents l (entry_of l row)) p.field) 0) (eq-eqb (mark_of row) p.kind (sym here ∙ k)))
