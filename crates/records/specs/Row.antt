-- One row and one entry.
use Rattle.std.specs.Prelude.{◌≡◌, ℕ, ◌-◌, min, ◌&&◌, List, [], ◌∷◌, length, Some, None, Ok, Option, Result, ◌==◌, nat_le, nat_lt, slice_index, slice_index_or}
use Rattle.refusals.specs.declared.table.Refusal.{Refusal}
use Rattle.refusals.specs.Refusals.{refusal}
use Rattle.refusals.specs.Faults.{Fault, fault, in_row, unless, first_some, fault_in, ok_or, answer}
use Rattle.fields.specs.Field.{Field, Value, num, Cell}
use Rattle.layouts.specs.Layout.{Layout, Kind, found, kind_of}
use Rattle.layouts.specs.Lawful.{Lawful}
use Rattle.records.specs.Cells.{Origin, origins, read_cells, write_cells, cells, values_in, digits_in, sorts_asked, wrong_value, unprinted}
use Rattle.records.specs.Conditions.{broken}

pub record Entry : Type 0 where
  pub mark : ℕ
  pub values : List Value

-- what a row reads as: an entry, and the digits of its worked fields in order
pub record Reading : Type 0 where
  pub entry : Entry
  pub digits : List ℕ

abbrev pub fields_of : Layout → ℕ → List Field
fields_of l m = (kind_of l m).fields

abbrev pub origins_of : Layout → ℕ → List Origin
origins_of l m = origins (fields_of l m)

-- what an entry's fields hold, with nothing in the worked ones
abbrev pub contents : Layout → Entry → List Cell
contents l e = cells (origins_of l e.mark) e.values []

-- 10: a mark that the book does not have
abbrev pub has_mark : Option Kind → Option Fault
has_mark None = Some (fault 10 1)
has_mark (Some k) = None

abbrev pub mark10 : Layout → ℕ → Option Fault
mark10 l m = has_mark (found m l.kinds)

abbrev pub values31 : Layout → Entry → Option ℕ
values31 l e = wrong_value (sorts_asked (origins_of l e.mark)) e.values

-- 11, 12, 13 of an entry
abbrev pub fields11 : Layout → Entry → Option Fault
fields11 l e = unprinted (fields_of l e.mark) (contents l e)

abbrev pub conditions15 : Layout → Entry → Option Fault
conditions15 l e = broken (fields_of l e.mark) (contents l e) (kind_of l e.mark).conditions

-- an entry that a row may hold
pub record Acceptable (l : Layout) (e : Entry) : Type 0 where
  pub known : mark10 l e.mark ≡ None
  pub valued : values31 l e ≡ None
  pub prints : fields11 l e ≡ None
  pub keeps : conditions15 l e ≡ None

-- an entry's row, with the worked numbers ws
abbrev pub print_row : Layout → Entry → List ℕ → Result (List ℕ) Fault
print_row l e ws = write_cells (fields_of l e.mark) (cells (origins_of l e.mark) e.values ws)

-- what stands in a row
abbrev pub mark_of : List ℕ → ℕ
mark_of row = slice_index row 0

abbrev pub cells_of : Layout → List ℕ → Result (List Cell) Fault
cells_of l row = read_cells (fields_of l (mark_of row)) row

abbrev pub entry_of : Layout → List ℕ → Entry
entry_of l row = record { mark = mark_of row; values = values_in (origins_of l (mark_of row)) (ok_or [] (cells_of l row)) }

abbrev pub digits_of : Layout → List ℕ → List ℕ
digits_of l row = digits_in (origins_of l (mark_of row)) (ok_or [] (cells_of l row))

-- 10, the fields by position, the conditions in order
abbrev pub row_faults : Layout → List ℕ → List (Option Fault)
row_faults l row = mark10 l (mark_of row) ∷ (fault_in (cells_of l row) ∷ (conditions15 l (entry_of l row) ∷ []))

abbrev pub read_row : Layout → List ℕ → Result Reading Fault
read_row l row = answer (first_some (row_faults l row)) (record { entry = entry_of l row; digits = digits_of l row })

-- value n of one row, from 1
abbrev pub take_value : Layout → List ℕ → ℕ → Result Value Refusal
take_value l row n =
    let vs = (entry_of l row).values in
    answer (first_some (unless (length row == 750) (refusal 1 (min (length row) 750) 0) ∷ (in_row 0 (first_some (row_faults l row)) ∷ (unless (nat_lt 0 n && nat_le n (length vs)) (refusal 31 n 0) ∷ [])))) (slice_index_or vs (n - 1) (num 0))

-- THE ROW LAW: 750 bytes read as the entry e and the worked digits ws exactly when e is acceptable and prints, with ws, as them
abbrev pub RowLaw : Layout → Type 0
RowLaw l =
    (row : List ℕ) (e : Entry) (ws : List ℕ) →
    ((length row ≡ 750) × (read_row l row ≡ Ok (record { entry = e; digits = ws })) → Acceptable l e × (print_row l e ws ≡ Ok row)) ×
    (Acceptable l e × (print_row l e ws ≡ Ok row) → (length row ≡ 750) × (read_row l row ≡ Ok (record { entry = e; digits = ws })))

abbrev pub RowsKeepTheLaw : Type 0
RowsKeepTheLaw = (l : Layout) → Lawful l → RowLaw l

-- the entry of a row is one only, and so are its worked digits
abbrev pub OneEntry : Type 0
OneEntry =
    (l : Layout) → Lawful l → (row : List ℕ) (d e : Entry) (us ws : List ℕ) →
    Acceptable l d → Acceptable l e → print_row l d us ≡ Ok row → print_row l e ws ≡ Ok row → (d ≡ e) × (us ≡ ws)

-- rows that are read are equal exactly when their entries, of one kind, and their worked digits are
abbrev pub EqualRows : Type 0
EqualRows =
    (l : Layout) → Lawful l → (row other : List ℕ) (r s : Reading) →
    length row ≡ 750 → length other ≡ 750 → read_row l row ≡ Ok r → read_row l other ≡ Ok s →
    (row ≡ other → (r.entry.mark ≡ s.entry.mark) × (r.entry.values ≡ s.entry.values) × (r.digits ≡ s.digits)) ×
    ((r.entry.mark ≡ s.entry.mark) × (r.entry.values ≡ s.entry.values) × (r.digits ≡ s.digits) → row ≡ other)
