-- A field in its row: its own positions, and no other.
use Rattle.std.specs.Prelude.{◌≡◌, ℕ, ◌+◌, ◌-◌, List, ◌++◌, length, take, drop, Ok, Err, Result}
use Rattle.fields.specs.declared.flaws.Flaw.{Flaw}
use Rattle.fields.specs.declared.flaws.Flaw.TheVariants.{Differs, Byte, Empty, Unfit}
use Rattle.fields.specs.declared.field.Content.{Content}
use Rattle.fields.specs.declared.field.Content.TheVariants.{Fixed, Number, Text}
use Rattle.refusals.specs.Faults.{Fault, fault}
use Rattle.fields.specs.Field.{Field, Cell, read_field, write_field}
use Rattle.fields.specs.Meaning.{cell_of}

-- a flaw, at its position: 14 and 11 where they are, 12 and 13 at the field's start
abbrev pub located : Field → Flaw → Fault
located f (Differs k) = fault 14 (f.start + k)
located f (Byte k) = fault 11 (f.start + k)
located f Empty = fault 12 f.start
located f Unfit = fault 13 f.start

abbrev pub at_field : {A : Type 0} → Field → Result A Flaw → Result A Fault
at_field f (Ok x) = Ok x
at_field f (Err e) = Err (located f e)

-- how far from the field's start a flaw lies
abbrev pub offset : Flaw → ℕ
offset (Differs k) = k
offset (Byte k) = k
offset Empty = 0
offset Unfit = 0

-- the bytes of a row that are the field's
abbrev pub part : Field → List ℕ → List ℕ
part f row = take f.width (drop (f.start - 1) row)

-- the row with bs in their place
abbrev pub placed : Field → List ℕ → List ℕ → List ℕ
placed f row bs = take (f.start - 1) row ++ (bs ++ drop (f.start - 1 + f.width) row)

-- where a text that was read begins
abbrev pub LiesAt : ℕ × ℕ → Content → Type 0
LiesAt p Fixed = Unit {0}
LiesAt p (Number n) = Unit {0}
LiesAt p (Text t) = t.ref_ptr ≡ p

-- a text that was read is the front of its field
abbrev pub FrontOf : List ℕ → Content → Type 0
FrontOf bs Fixed = Unit {0}
FrontOf bs (Number n) = Unit {0}
FrontOf bs (Text t) = t.now ≡ take (length t.now) bs

-- what a field of a row that begins at the address p was read as
pub record ReadAs (f : Field) (p : ℕ × ℕ) (row : List ℕ) (content : Content) : Type 0 where
  pub read : read_field f (part f row) ≡ Ok (cell_of content)
  pub again : write_field f (cell_of content) ≡ Ok (part f row)
  pub place : LiesAt (p.0, f.start - 1 + p.1) content
  pub front : FrontOf (part f row) content

-- the row after a content was written into a field: the field's positions hold it, the others what they held
pub record WrittenAs (f : Field) (before after : List ℕ) (v : Cell) : Type 0 where
  pub written : write_field f v ≡ Ok (part f after)
  pub again : read_field f (part f after) ≡ Ok v
  pub framed : after ≡ placed f before (part f after)
