-- A row of a known kind, judged field by field.
use Rattle.std.proofs.Common.{◌≡◌, ℕ, ◌<◌, List, [], ◌∷◌, length, Some, None, Ok, Option, sym, refl, ap, ◌∙◌, lit≤}
use Rattle.std.specs.List.{AllByRecursion}
use Rattle.refusals.specs.declared.table.Refusal.{Refusal}
use Rattle.refusals.specs.Faults.{Fault, in_row, first_some, fault_in, ok_or, answer}
use Rattle.fields.specs.Field.{Field}
use Rattle.layouts.specs.Layout.{Layout, field_at, kind_of}
use Rattle.layouts.specs.Lawful.{NotWorked, Lawful}
use Rattle.layouts.specs.declared.conditions.Condition.{Condition}
use Rattle.records.specs.Cells.{cells, values_in, digits_in}
use Rattle.records.specs.Conditions.{cell_at, broken, Named}
use Rattle.records.specs.Row.{fields_of, origins_of, contents, mark10, conditions15, mark_of, cells_of, entry_of, digits_of, row_faults}
use Rattle.records.specs.Held.{cell_in, cells_in, fields_fault, digits_held}
use Rattle.records.proofs.Options.{some_none, no_fault}
use Rattle.records.proofs.Cells.{Shaped, Alike, cells_write, shaped, dealt_again, alike}
use Rattle.records.proofs.Held.{cell_at_lem, read_held, digits_in_lem}
use Rattle.records.proofs.Named.{alike_at, broken_same}
use Rattle.records.proofs.Law.{lawful_kind, whole}

answer_fault : {A F : Type 0} (o : Option F) (x : A) → fault_in (answer o x) ≡ o
answer_fault None x = refl
answer_fault (Some f) x = refl

module _ (l : Layout) (law : Lawful l) (row : List ℕ) (known : mark10 l (mark_of row) ≡ None) where
  pub cells_held : cells_of l row ≡ answer (fields_fault (fields_of l (mark_of row)) row) (cells_in (fields_of l (mark_of row)) row)
  cells_held = read_held 1 (fields_of l (mark_of row)) row (lit≤ tt) (lawful_kind l law (mark_of row) known).0.covers

  pub fault_held : fault_in (cells_of l row) ≡ fields_fault (fields_of l (mark_of row)) row
  fault_held = ap fault_in cells_held ∙ answer_fault (fields_fault (fields_of l (mark_of row)) row) (cells_in (fields_of l (mark_of row)) row)

-- a row whose fields are good
module _ (l : Layout) (law : Lawful l) (row : List ℕ) (len : length row ≡ 750) (known : mark10 l (mark_of row) ≡ None) (good : fields_fault (fields_of l (mark_of row)) row ≡ None) where
  pub cells_good : cells_of l row ≡ Ok (cells_in (fields_of l (mark_of row)) row)
  cells_good = cells_held l law row known ∙ ap (λ o. answer o (cells_in (fields_of l (mark_of row)) row)) good

  pub held_shaped : Shaped (origins_of l (mark_of row)) (cells_in (fields_of l (mark_of row)) row)
  held_shaped =
      let fs = fields_of l (mark_of row) in
      shaped fs (cells_in fs row) row (cells_write fs row (cells_in fs row) (len ∙ sym (whole l law (mark_of row) known)) cells_good)

  held_alike : Alike (origins_of l (mark_of row)) (cells_in (fields_of l (mark_of row)) row) (contents l (entry_of l row))
  held_alike =
      let os = origins_of l (mark_of row) in
      let cs = cells_in (fields_of l (mark_of row)) row in
      let here : cs ≡ ok_or [] (cells_of l row) = ap (ok_or []) (sym cells_good) in
      let both : Alike os cs (cells os (values_in os cs) []) = rw (dealt_again os cs held_shaped) at (alike os (values_in os cs) (digits_in os cs) []) in
      rw (← here) both

  -- the conditions look at what the fields hold
  pub conditions_held : conditions15 l (entry_of l row) ≡ broken (fields_of l (mark_of row)) (cells_in (fields_of l (mark_of row)) row) (kind_of l (mark_of row)).conditions
  conditions_held =
      let m = mark_of row in
      sym (broken_same (fields_of l m) (cells_in (fields_of l m) row) (contents l (entry_of l row)) held_alike (kind_of l m).conditions (lawful_kind l law m known).0.conditions)

  -- a field that is not worked holds what the row's entry has there
  pub held_entered : (i : ℕ) → i < length (fields_of l (mark_of row)) → NotWorked (field_at (fields_of l (mark_of row)) i).sort → cell_in (field_at (fields_of l (mark_of row)) i) row ≡ cell_at (contents l (entry_of l row)) i
  held_entered i less h =
      let fs = fields_of l (mark_of row) in
      cell_at_lem fs row i less ∙ alike_at fs (cells_in fs row) (contents l (entry_of l row)) held_alike i less h

  -- and the worked fields hold the row's digits, in order
  pub held_worked : digits_of l row ≡ digits_held (fields_of l (mark_of row)) row
  held_worked =
      let fs = fields_of l (mark_of row) in
      ap (λ x. digits_in (origins_of l (mark_of row)) (ok_or [] x)) cells_good ∙ digits_in_lem fs row held_shaped

-- a known mark, then what the fields and the conditions find
known_first : (a b c d e : Option Fault) → a ≡ None → b ≡ d → (d ≡ None → c ≡ e) → first_some (a ∷ (b ∷ (c ∷ []))) ≡ first_some (d ∷ (e ∷ []))
known_first None b c None e h k m = rw (k, m refl)
known_first None b c (Some f) e h k m = rw k
known_first (Some f) b c d e h k m = some_none h

-- the first of two that is found, where the row is known
pub found_first : (n : ℕ) (x : Refusal) (a b : Option Fault) → Some x ≡ in_row n a → Some x ≡ in_row n (first_some (a ∷ (b ∷ [])))
found_first n x None b e = some_none e
found_first n x (Some f) b e = e

pub found_second : (n : ℕ) (o : Option Refusal) (a b : Option Fault) → None ≡ in_row n a → o ≡ in_row n b → o ≡ in_row n (first_some (a ∷ (b ∷ [])))
found_second n o None None h e = e
found_second n o None (Some f) h e = e
found_second n o (Some f) b h e = some_none (sym h)

-- fs and cs are the fields and the conditions that the book answers for the kind with the mark m
module _ (l : Layout) (law : Lawful l) (row : List ℕ) (n m : ℕ) (found : m ≡ mark_of row) (known : None ≡ in_row n (mark10 l (mark_of row))) (fs : List Field) (answered : fs ≡ fields_of l m) (cs : List Condition) (same : cs ≡ (kind_of l m).conditions) where
  kind_known : mark10 l (mark_of row) ≡ None
  kind_known = no_fault n _ (sym known)

  pub named : AllByRecursion (Named fs) cs
  named = rw (answered, same, found) (lawful_kind l law (mark_of row) kind_known).0.conditions

  pub judged : length row ≡ 750 → first_some (row_faults l row) ≡ first_some (fields_fault fs row ∷ (broken fs (cells_in fs row) cs ∷ []))
  judged len = rw (answered, same, found) (known_first _ _ _ _ _ kind_known (fault_held l law row kind_known) (conditions_held l law row len kind_known))
