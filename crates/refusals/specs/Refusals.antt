-- The table of refusals: which number belongs to which layer, and what each fault returns.
use Rattle.std.specs.Prelude.{ℕ, cond, ◌||◌, Some, None, Ok, Err, Option, Result, ◌==◌, nat_le}
use Rattle.refusals.specs.declared.table.Layer.{Layer}
use Rattle.refusals.specs.declared.table.Layer.TheVariants as layer
use Rattle.refusals.specs.declared.table.Refusal.{Refusal}
use Rattle.refusals.specs.declared.carrier.CarrierFault.{CarrierFault}
use Rattle.refusals.specs.declared.carrier.CarrierFault.TheVariants.{BadForm, Full, NoSuchRow}
use Rattle.refusals.specs.declared.field.FieldFault.{FieldFault}
use Rattle.refusals.specs.declared.field.FieldFault.TheVariants.{BadByte, NotFilled, Unfit, Differs}
use Rattle.refusals.specs.declared.row.RowFault.{RowFault}
use Rattle.refusals.specs.declared.row.RowFault.TheVariants.{NoSuchKind, Condition, Field}
use Rattle.refusals.specs.declared.entry.ValueFault.{ValueFault}
use Rattle.refusals.specs.declared.entry.EntryFault.{EntryFault}
use Rattle.refusals.specs.declared.entry.EntryFault.TheVariants as entry
use Rattle.refusals.specs.declared.entry.TakeFault.{TakeFault}
use Rattle.refusals.specs.declared.entry.TakeFault.TheVariants as taking
use Rattle.refusals.specs.declared.file.FileFault.{FileFault}
use Rattle.refusals.specs.declared.file.FileFault.TheVariants as file
use Rattle.refusals.specs.declared.draft.DraftFault.{DraftFault}
use Rattle.refusals.specs.declared.draft.DraftFault.TheVariants as draft
use Rattle.refusals.specs.declared.input.InputFault.{InputFault}
use Rattle.refusals.specs.declared.input.InputFault.TheVariants as input

-- carrier 1 to 3, field 11 to 14, row 10 and 15, file 20 to 28, draft 30 and 31, program 32 and 33
abbrev pub layer_of : ℕ → Layer
layer_of n = cond (nat_le n 3) layer.Carrier (cond (n == 10 || n == 15) layer.Row (cond (nat_le n 14) layer.Field (cond (nat_le n 28) layer.File (cond (nat_le n 31) layer.Draft layer.Program))))

-- a refusal with its number and its two values
abbrev pub refusal : ℕ → ℕ → ℕ → Refusal
refusal n a b = record { number = n; layer = layer_of n; first = a; second = b }

-- WHAT EACH FAULT RETURNS, by layers; a lower layer's fault is carried whole
abbrev pub of_carrier : CarrierFault → Refusal
of_carrier (BadForm at) = refusal 1 at 0
of_carrier (Full places) = refusal 2 places 0
of_carrier (NoSuchRow n) = refusal 3 n 0

abbrev pub of_field : FieldFault → Refusal
of_field (BadByte row position) = refusal 11 row position
of_field (NotFilled row position) = refusal 12 row position
of_field (Unfit row position) = refusal 13 row position
of_field (Differs row position) = refusal 14 row position

abbrev pub of_row : RowFault → Refusal
of_row (NoSuchKind row) = refusal 10 row 1
of_row (Condition row position) = refusal 15 row position
of_row (Field f) = of_field f

abbrev pub of_file : FileFault → Refusal
of_file (file.OutOfOrder row) = refusal 20 row 1
of_file (file.GroupFull row) = refusal 21 row 1
of_file (file.OwnerType row) = refusal 22 row 1
of_file (file.OtherIdentifier row position) = refusal 22 row position
of_file (file.WrongNumber row position) = refusal 23 row position
of_file (file.WrongTotal row position) = refusal 24 row position
of_file (file.WrongCount row position) = refusal 25 row position
of_file (file.SumTooLarge row position) = refusal 26 row position
of_file (file.TooManyRows row) = refusal 27 row 0
of_file (file.NoTrailer rows) = refusal 28 rows 0
of_file (file.Row f) = of_row f

abbrev pub of_value : ValueFault → Refusal
of_value v = refusal 31 v.number 0

abbrev pub of_entry : EntryFault → Refusal
of_entry (entry.Value v) = of_value v
of_entry (entry.Row f) = of_row f

abbrev pub of_take : TakeFault → Refusal
of_take (taking.Carrier f) = of_carrier f
of_take (taking.Row f) = of_row f
of_take (taking.Value v) = of_value v

abbrev pub of_draft : DraftFault → Refusal
of_draft draft.WrongState = refusal 30 0 0
of_draft (draft.Value f) = of_value f
of_draft (draft.Row f) = of_row f
of_draft (draft.File f) = of_file f
of_draft (draft.Carrier f) = of_carrier f

-- an entry's fault, as a draft carries it
abbrev pub draft_of : EntryFault → DraftFault
draft_of (entry.Value v) = draft.Value v
draft_of (entry.Row f) = draft.Row f

abbrev pub of_input : InputFault → Refusal
of_input input.TooLong = refusal 33 0 0
of_input input.NoBook = refusal 32 0 0
of_input (input.Form f) = of_carrier f
of_input (input.File f) = of_file f

-- the refusal in an answer, whatever its faults are
abbrev pub refusal_in : {A E : Type 0} → (E → Refusal) → Result A E → Option Refusal
refusal_in of (Ok x) = None
refusal_in of (Err e) = Some (of e)
