-- What the program's fields and contents stand for.
use Rattle.std.specs.Prelude.{map, Some, None}
use Rattle.fields.specs.Field as s
use Rattle.fields.specs.declared.field.Working.{Working}
use Rattle.fields.specs.declared.field.Working.TheVariants.{RowNumber, OwnerNumber, Total, Count}
use Rattle.fields.specs.declared.field.Sort.{Sort}
use Rattle.fields.specs.declared.field.Sort.TheVariants.{Constant, Blank, Text, Word, Number, Code, Date, Amount, LongDigits, Worked}
use Rattle.fields.specs.declared.field.Field.{Field}
use Rattle.fields.specs.declared.field.Content.{Content}
use Rattle.fields.specs.declared.field.Content.TheVariants as content

abbrev pub working_of : Working → s.Working
working_of RowNumber = s.number_of_row
working_of OwnerNumber = s.number_of_owner
working_of Total = s.total
working_of Count = s.count

abbrev pub sort_of : Sort → s.Sort
sort_of (Constant c) = s.constant c.now
sort_of Blank = s.blank
sort_of Text = s.text
sort_of (Word us) = s.word (map (λ u. u.now) us.now)
sort_of Number = s.number
sort_of (Code cs) = s.code cs.now
sort_of Date = s.date
sort_of Amount = s.amount
sort_of LongDigits = s.long
sort_of (Worked k) = s.worked (working_of k)

abbrev pub field_of : Field → s.Field
field_of f = record { start = f.start; width = f.width; sort = sort_of f.sort; required = f.required }

abbrev pub cell_of : Content → s.Cell
cell_of content.Fixed = None
cell_of (content.Number n) = Some (s.num n)
cell_of (content.Text t) = Some (s.txt t.now)
