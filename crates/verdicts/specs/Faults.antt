-- What is told of the faults of an input.
use Rattle.std.specs.Prelude.{ℕ, ◌+◌, ◌/◌, Ok, Err, Result}
use Rattle.refusals.specs.Refusals.{of_carrier, of_file, of_input}
use Rattle.refusals.specs.declared.input.InputFault.{InputFault}
use Rattle.refusals.specs.declared.input.InputFault.TheVariants.{TooLong, NoBook, Form, File}
use Rattle.legality.specs.File as s
use Rattle.files.specs.Told.{accepted_of}
use Rattle.files.specs.declared.checking.Accepted.{Accepted}
use Rattle.verdicts.specs.Input.{Named, named}

-- the row that a fault is told with: bytes that break the form are told with the row of their line
abbrev pub row_of : InputFault → ℕ
row_of TooLong = 0
row_of NoBook = 0
row_of (Form f) = (of_carrier f).first / 1501 + 1
row_of (File f) = (of_file f).first

abbrev pub told : Result Accepted InputFault → Result s.Accepted Named
told (Ok a) = Ok (accepted_of a)
told (Err e) = Err (named (of_input e).number (row_of e) (of_input e).second)
