-- Which field of a list has a position.
use Rattle.std.specs.Prelude.{ℕ, ◌+◌, ◌<◌, ◌≤◌, List, map, length}
use Rattle.fields.specs.Meaning.{field_of}
use Rattle.fields.specs.declared.field.Field.{Field}
use Rattle.layouts.specs.Layout.{field_at}

pub record Holds (fields : List Field) (i position : ℕ) : Type 0 where
  pub within : i < length fields
  pub from : (field_at (map field_of fields) i).start ≤ position
  pub to : position < (field_at (map field_of fields) i).start + (field_at (map field_of fields) i).width
