-- The row of an entry: what printing refuses, and what the printed row is judged as.
use Rattle.std.proofs.Common.{◌≡◌, ℕ, ◌^◌, ◌<◌, List, [], ◌∷◌, ◌++◌, Some, None, Ok, Err, Option, Result, refl, ap, ◌∙◌}
use Rattle.refusals.specs.Faults.{and_then, first_some, fault_in}
use Rattle.fields.specs.Field.{Field, Cell, Working, write_field}
use Rattle.fields.specs.InRow.{at_field}
use Rattle.layouts.specs.Layout.{Layout}
use Rattle.layouts.specs.Lawful.{Lawful, WorkedWide}
use Rattle.records.specs.Cells.{Origin, of_book, entered, reckoned, origin, origins, cells, write_cells, unworked, unprinted}
use Rattle.records.specs.Row.{Entry, fields_of, origins_of, contents, mark10, values31, fields11, conditions15, print_row, row_faults}
use Rattle.records.specs.Worked.{reckoned_by}
use Rattle.records.proofs.Options.{fault_ok, ok_at}
use Rattle.records.proofs.Cells.{AlikeAt, Alike, alike, FitAt, WorkedFit}
use Rattle.records.proofs.Law.{Printed, lawful_kind}
use Rattle.legality.proofs.Fitting.{kind_fits}
use Rattle.legality.proofs.Reckoning.{worked_fit}
use Rattle.legality.proofs.Place.{as_many}

-- the first fault of two results, one after the other
glue : {A B C F : Type 0} (r : Result A F) (w : Result B F) (k : A → B → C) → fault_in (and_then r (λ a. and_then w (λ b. Ok (k a b)))) ≡ first_some (fault_in r ∷ (fault_in w ∷ []))
glue (Ok a) (Ok b) k = refl
glue (Ok a) (Err e) k = refl
glue (Err e) w k = refl

head : (o : Origin) (f : Field) (c d : Cell) → AlikeAt o c d → FitAt o f c → fault_in (at_field f (write_field f c)) ≡ unworked o (fault_in (at_field f (write_field f d)))
head of_book f c d a w = ap (λ x. fault_in (at_field f (write_field f x))) a
head (entered p) f c d a w = ap (λ x. fault_in (at_field f (write_field f x))) a
head (reckoned s k) f c d a w = fault_ok _ w.0 (ok_at f _ _ w.1)

-- where the worked fields print, printing refuses what the entry's own fields are refused for
print_faults : (fs : List Field) (cs ds : List Cell) → Alike (origins fs) cs ds → WorkedFit fs cs → fault_in (write_cells fs cs) ≡ unprinted fs ds
print_faults [] [] ds a w = refl
print_faults [] (c ∷ cs) ds a w = absurd w
print_faults (f ∷ fs) [] ds a w = absurd w
print_faults (f ∷ fs) (c ∷ cs) [] a w = absurd a
print_faults (f ∷ fs) (c ∷ cs) (d ∷ ds) a w =
    glue (at_field f (write_field f c)) (write_cells fs cs) (λ b bs. b ++ bs)
    ∙ ap (λ o. first_some (o ∷ (fault_in (write_cells fs cs) ∷ []))) (head (origin f) f c d a.0 w.0)
    ∙ ap (λ o. first_some (unworked (origin f) (fault_in (at_field f (write_field f d))) ∷ (o ∷ []))) (print_faults fs cs ds a.1 w.1)

pub last : {F : Type 0} (a b c : Option F) → a ≡ None → b ≡ None → first_some (a ∷ (b ∷ (c ∷ []))) ≡ c
last a b None p q = rw (p, q)
last a b (Some f) p q = rw (p, q)

module _ (l : Layout) (law : Lawful l) (e : Entry) (known : mark10 l e.mark ≡ None) (valued : values31 l e ≡ None) where
  pub prints : (r : Working → ℕ) → ((k : Working) (w : ℕ) → WorkedWide k w → r k < 10 ^ w) → fault_in (print_row l e (reckoned_by r (origins_of l e.mark))) ≡ fields11 l e
  prints r small =
      let os = origins_of l e.mark in
      let k = (lawful_kind l law e.mark known).0 in
      let fit = worked_fit r small (fields_of l e.mark) k.widths (kind_fits l _ k) e.values (as_many l e valued) in
      print_faults (fields_of l e.mark) (cells os e.values (reckoned_by r os)) (contents l e) (alike os e.values (reckoned_by r os) []) fit

  -- a row that was printed is refused only for its conditions
  pub judged_as : (ws row : List ℕ) → Printed l e ws row → first_some (row_faults l row) ≡ conditions15 l e
  judged_as ws row is = last _ _ _ (ap (mark10 l) is.mark ∙ known) (fault_ok _ _ is.cells) ∙ ap (conditions15 l) is.entry

-- worked numbers that are equal one by one are the same list
pub same_worked : (r q : Working → ℕ) (os : List Origin) → ((k : Working) → r k ≡ q k) → reckoned_by r os ≡ reckoned_by q os
same_worked r q [] same = refl
same_worked r q (of_book ∷ os) same = same_worked r q os same
same_worked r q (entered p ∷ os) same = same_worked r q os same
same_worked r q (reckoned s k ∷ os) same = ap (λ n. n ∷ reckoned_by r os) (same k) ∙ ap (λ ns. q k ∷ ns) (same_worked r q os same)
