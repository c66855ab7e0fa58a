use Rattle.std.proofs.Common.{◌≡◌, map, drop}
use Rattle.fields.specs.Meaning.{field_of}
use Rattle.records.specs.Held.{fields_fault}
use Rattle.records.specs.Parted.{fields_in}
use Rattle.records.proofs.parted.PartedRow.check_fields.Given as goal

abbrev pub invariant-loop-field : goal.invariant-loop-field
invariant-loop-field l = fields_fault (map field_of (drop l.field-index l.field-items)) l.self.row.now ≡ fields_fault (fields_in l.self) l.self.row.now
