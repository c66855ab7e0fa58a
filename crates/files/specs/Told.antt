-- What the check's answer stands for.
use Rattle.std.specs.Prelude.{◌≡◌, ℕ, Bool, List, Ok, Err, Result}
use Rattle.refusals.specs.declared.table.Refusal.{Refusal}
use Rattle.layouts.specs.Layout.{Layout}
use Rattle.records.specs.Row.{Entry}
use Rattle.refusals.specs.declared.file.FileFault.{FileFault}
use Rattle.files.specs.declared.checking.Accepted.{Accepted}
use Rattle.legality.specs.Before.{rows_of}
use Rattle.refusals.specs.Refusals.{of_file}
use Rattle.legality.specs.File as s
use Rattle.legality.specs.File.{Legal, accepted, checked}
use Rattle.refusals.specs.declared.input.InputFault.{InputFault}
use Rattle.refusals.specs.declared.input.InputFault.TheVariants.{TooLong, NoBook, Form, File}
use Rattle.rows.specs.Lines.{opened, Formed}
use Rattle.rows.specs.Rows.{BrokenForm}

abbrev pub accepted_of : Accepted → s.Accepted
accepted_of a = record { rows = a.rows; sum = a.sum.value }

abbrev pub told : Result Accepted FileFault → Result s.Accepted Refusal
told (Ok a) = Ok (accepted_of a)
told (Err e) = Err (of_file e)

-- the rows are those of one legal list and of no other, and a is its count and its sum
pub record OneLegal (l : Layout) (rows : List (List ℕ)) (a : s.Accepted) : Type 0 where
  pub entries : List Entry
  pub legal : Legal l entries
  pub printed : rows_of l entries ≡ rows
  pub sums : a ≡ accepted l entries
  pub alone : (fs : List Entry) → Legal l fs → rows_of l fs ≡ rows → fs ≡ entries

-- THE CHECK OF BYTES IN A FORM: they keep it, and a is what the check answers on their rows
abbrev pub AcceptedIn : (ℕ → ℕ → Bool) → (List ℕ → List ℕ) → ℕ → Layout → List ℕ → Accepted → Type 0
AcceptedIn good decoded size l bytes a = Formed good size bytes × (checked l (opened decoded size bytes) ≡ Ok (accepted_of a))

-- they break it where the fault says, or they keep it and the check refuses their rows
abbrev pub RefusedIn : (ℕ → ℕ → Bool) → (List ℕ → List ℕ) → ℕ → Layout → List ℕ → InputFault → Type 0
RefusedIn good decoded size l bytes (Form e) = BrokenForm good size bytes e
RefusedIn good decoded size l bytes (File e) = Formed good size bytes × (checked l (opened decoded size bytes) ≡ Err (of_file e))
RefusedIn good decoded size l bytes TooLong = ⊥
RefusedIn good decoded size l bytes NoBook = ⊥
