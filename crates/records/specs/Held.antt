-- What stands in a row, each field looked for at its own positions.
use Rattle.std.specs.Prelude.{◌≡◌, ℕ, List, [], ◌∷◌, Some, None, Option}
use Rattle.refusals.specs.Faults.{Fault, first_some, fault_in, ok_or}
use Rattle.fields.specs.Field.{Field, num, txt, Cell, read_field}
use Rattle.fields.specs.InRow.{at_field, part}
use Rattle.records.specs.Cells.{Origin, of_book, entered, reckoned, origin}
use Rattle.records.specs.Conditions.{number_in}

-- what a field holds, and nothing where it is refused
abbrev pub cell_in : Field → List ℕ → Cell
cell_in f row = ok_or None (read_field f (part f row))

-- a text that a field holds begins at the address p, and was found at q
abbrev pub BeginsAt : ℕ × ℕ → ℕ × ℕ → Cell → Type 0
BeginsAt p q None = Unit {0}
BeginsAt p q (Some (num n)) = Unit {0}
BeginsAt p q (Some (txt t)) = q ≡ p

abbrev pub cells_in : List Field → List ℕ → List Cell
cells_in [] row = []
cells_in (f ∷ fs) row = cell_in f row ∷ cells_in fs row

-- the first field, by position, that is refused
abbrev pub fields_fault : List Field → List ℕ → Option Fault
fields_fault [] row = None
fields_fault (f ∷ fs) row = first_some (fault_in (at_field f (read_field f (part f row))) ∷ (fields_fault fs row ∷ []))

-- the digits of the worked fields, in order
abbrev pub worked_next : Origin → ℕ → List ℕ → List ℕ
worked_next of_book n ns = ns
worked_next (entered p) n ns = ns
worked_next (reckoned s k) n ns = n ∷ ns

abbrev pub digits_held : List Field → List ℕ → List ℕ
digits_held [] row = []
digits_held (f ∷ fs) row = worked_next (origin f) (number_in (cell_in f row)) (digits_held fs row)
