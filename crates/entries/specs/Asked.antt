-- What the fields of a kind ask of an entry.
use Rattle.std.specs.Prelude.{ℕ, Bool, List, map, Some, None, Option}
use Rattle.fields.specs.Field as s
use Rattle.fields.specs.Meaning.{field_of, working_of}
use Rattle.fields.specs.declared.field.Field.{Field}
use Rattle.fields.specs.declared.field.Sort.{Sort}
use Rattle.fields.specs.declared.field.Sort.TheVariants as sort
use Rattle.entries.specs.declared.origins.Asked.{Asked}
use Rattle.entries.specs.declared.origins.Asked.TheVariants.{Number, Text}
use Rattle.entries.specs.declared.origins.Origin.{Origin}
use Rattle.entries.specs.declared.origins.Origin.TheVariants.{Book, Entered, Worked}
use Rattle.records.specs.Cells as c

-- the test that a value has to pass
abbrev pub asks_for : Asked → s.Value → Bool
asks_for Number = c.is_num
asks_for Text = c.is_txt

-- an origin as the program has it, of a field that begins at a
abbrev pub origin_of : ℕ → Origin → c.Origin
origin_of a Book = c.of_book
origin_of a (Entered asked) = c.entered (asks_for asked)
origin_of a (Worked k) = c.reckoned a (working_of k)

-- the origin of a field of this sort, and what it asks of an entry
abbrev pub origin_in : Sort → Origin
origin_in (sort.Constant c) = Book
origin_in sort.Blank = Book
origin_in sort.Text = Entered Text
origin_in (sort.Word us) = Entered Text
origin_in sort.Number = Entered Number
origin_in (sort.Code cs) = Entered Number
origin_in sort.Date = Entered Number
origin_in sort.Amount = Entered Number
origin_in sort.LongDigits = Entered Text
origin_in (sort.Worked k) = Worked k

abbrev pub asked_at : Origin → Option Asked
asked_at Book = None
asked_at (Entered a) = Some a
asked_at (Worked k) = None

abbrev pub asked_in : Field → Option Asked
asked_in f = asked_at (origin_in f.sort)

-- the tests of all values, in order
abbrev pub asked_by : List Field → List (s.Value → Bool)
asked_by fields = c.sorts_asked (c.origins (map field_of fields))
