-- A row with the fields of its kind.
use Rattle.std.specs.Prelude.{ℕ, ◌<◌, List, map, length}
use Rattle.fields.specs.Field.{Field, Cell}
use Rattle.fields.specs.Meaning.{field_of}
use Rattle.records.specs.declared.parted.PartedRow.{PartedRow}
use Rattle.records.specs.Held.{cells_in}

abbrev pub fields_in : PartedRow → List Field
fields_in r = map field_of r.fields.now

-- what they hold, in order
abbrev pub held : PartedRow → List Cell
held r = cells_in (fields_in r) r.row.now

-- a field stands at this place
abbrev pub HasPlace : PartedRow → ℕ → Type 0
HasPlace r i = i < length (fields_in r)
