-- The fields of an entry's row, as they are printed.
use Rattle.std.specs.Prelude.{◌≡◌, ℕ, true, List, [], ◌∷◌, map, Some, None, Result}
use Rattle.refusals.specs.Faults.{Fault}
use Rattle.fields.specs.Field.{Working, Cell, num}
use Rattle.fields.specs.Meaning.{field_of}
use Rattle.fields.specs.declared.field.Field.{Field}
use Rattle.records.specs.declared.entries.Value.{Value}
use Rattle.records.specs.declared.entries.Value.TheVariants.{Number}
use Rattle.records.specs.Cells.{Origin, of_book, entered, reckoned, origins, cells, write_cells}
use Rattle.records.specs.Entries.{value_of, inside}
use Rattle.records.specs.Worked.{reckoned_by}

-- what a field holds, where vs are the values that are left
abbrev pub cell_for : List ℕ → (Working → ℕ) → List Value → Origin → Cell
cell_for pool r vs of_book = None
cell_for pool r [] (entered p) = Some (value_of pool (Number 0))
cell_for pool r (v ∷ vs) (entered p) = Some (value_of pool v)
cell_for pool r vs (reckoned a k) = Some (num (r k))

-- the values that are left after it
abbrev pub rest_after : List Value → Origin → List Value
rest_after vs of_book = vs
rest_after [] (entered p) = []
rest_after (v ∷ vs) (entered p) = vs
rest_after vs (reckoned a k) = vs

-- the next value is there, if one is asked for, and lies in the pool
abbrev pub Ready : List ℕ → List Value → Origin → Type 0
Ready pool vs of_book = Unit {0}
Ready pool [] (entered p) = ⊥
Ready pool (v ∷ vs) (entered p) = inside pool v ≡ true
Ready pool vs (reckoned a k) = Unit {0}

-- fields one after the other, with these values and worked numbers
abbrev pub print_fields : List ℕ → (Working → ℕ) → List Field → List Value → Result (List ℕ) Fault
print_fields pool r fields vs = write_cells (map field_of fields) (cells (origins (map field_of fields)) (map (value_of pool) vs) (reckoned_by r (origins (map field_of fields))))
