use Rattle.std.proofs.Common.{◌≡◌, ℕ, ◌+◌, ◌/◌, List, Ok, Err, Result, MatchResult, ap}
use Rattle.refusals.specs.declared.input.InputFault.{InputFault}
use Rattle.refusals.specs.declared.input.InputFault.TheVariants.{TooLong, NoBook, Form, File}
use Rattle.forms.specs.Forms.{hex_byte, unhexed}
use Rattle.layouts.specs.Layout.{Layout}
use Rattle.files.specs.declared.checking.Accepted.{Accepted}
use Rattle.files.specs.Told.{AcceptedIn, RefusedIn}
use Rattle.verdicts.specs.Faults.{told}
use Rattle.verdicts.specs.Input.{named, checked_lines}
use Rattle.verdicts.proofs.Breaking.{form_kept, form_broken}
use Rattle.verdicts.proofs.verdicts.check_lines.Goals as goal

lines_told : (l : Layout) (lines : List ℕ) (r : Result Accepted InputFault) → MatchResult r (AcceptedIn hex_byte unhexed 1501 l lines) (RefusedIn hex_byte unhexed 1501 l lines) → told r ≡ checked_lines l lines
lines_told l lines (Ok a) kept = rw (form_kept lines kept.0, kept.1)
lines_told l lines (Err (Form e)) broken = rw (form_broken lines broken.0 broken.2) (ap (λ r. Err (named r.number (r.first / 1501 + 1) r.second)) broken.1)
lines_told l lines (Err (File e)) kept = rw (form_kept lines kept.0, kept.1)
lines_told l lines (Err TooLong) none = absurd none
lines_told l lines (Err NoBook) none = absurd none

pub returns : goal.returns
returns g c = lines_told g.B.Meant.meaning c.args.lines.now c.check_in.result c.check_in.ensures
