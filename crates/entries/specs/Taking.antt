-- One value of a row, as it is taken.
use Rattle.std.specs.Prelude.{◌≡◌, ℕ, ◌+◌, ◌-◌, List, [], ◌∷◌, Some, None, Ok, Err, Result, slice_index_or}
use Rattle.refusals.specs.declared.table.Refusal.{Refusal}
use Rattle.refusals.specs.declared.entry.TakeFault.{TakeFault}
use Rattle.refusals.specs.Refusals.{of_take}
use Rattle.fields.specs.Field.{Field, Value, num, txt, Cell}
use Rattle.layouts.specs.Layout.{Layout, no_field}
use Rattle.entries.specs.declared.taking.Taken.{Taken}
use Rattle.entries.specs.declared.taking.Taken.TheVariants.{Number, Text}
use Rattle.records.specs.Cells.{Origin, of_book, entered, reckoned, origin}
use Rattle.records.specs.Row.{fields_of, mark_of}

-- the fields that an entry has values for, in order
abbrev pub entered_next : Origin → Field → List Field → List Field
entered_next of_book f fs = fs
entered_next (entered p) f fs = f ∷ fs
entered_next (reckoned s k) f fs = fs

abbrev pub entered_of : List Field → List Field
entered_of [] = []
entered_of (f ∷ fs) = entered_next (origin f) f (entered_of fs)

-- the field of value n of a row, from 1
abbrev pub field_of_value : Layout → List ℕ → ℕ → Field
field_of_value l row n = slice_index_or (entered_of (fields_of l (mark_of row))) (n - 1) no_field

abbrev pub value_in : Taken → Value
value_in (Number n) = num n
value_in (Text position bytes) = txt bytes.now

-- what an answer tells
abbrev pub took : Result Taken TakeFault → Result Value Refusal
took (Ok t) = Ok (value_in t)
took (Err e) = Err (of_take e)

-- a text is that part of the row itself, which begins at the address p: its position is the field's start
abbrev pub TakenAt : ℕ × ℕ → Field → Taken → Type 0
TakenAt p f (Number n) = Unit {0}
TakenAt p f (Text position bytes) = (position ≡ f.start) × (bytes.ref_ptr ≡ (p.0, f.start - 1 + p.1))

-- a value is there
abbrev pub Holds : Cell → Type 0
Holds None = ⊥
Holds (Some v) = Unit {0}
