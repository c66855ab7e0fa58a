-- What is read back of a draft that was closed, in the words of what check and take promise.
use Rattle.std.specs.Prelude.{◌≡◌, ℕ, ◌-◌, ◌<◌, ◌≤◌, List, [], length, get_or, Ok, Result, slice_index_or}
use Rattle.refusals.specs.declared.file.FileFault.{FileFault}
use Rattle.refusals.specs.declared.entry.TakeFault.{TakeFault}
use Rattle.fields.specs.Field.{num}
use Rattle.records.specs.Row.{Entry, take_value}
use Rattle.entries.specs.declared.taking.Taken.{Taken}
use Rattle.entries.specs.Taking.{took}
use Rattle.legality.specs.Before.{rows_of, no_entry}
use Rattle.legality.specs.File.{Legal, accepted, checked}
use Rattle.files.specs.declared.checking.Accepted.{Accepted}
use Rattle.files.specs.Told.{accepted_of, told, OneLegal}
use Rattle.lives.specs.Draft.{done}
use Rattle.lives.specs.States.{state_of}
use Rattle.refusals.specs.Refusals.{refusal_in, of_draft}
use Rattle.layouts.specs.Layout.{Layout}
use Rattle.drafts.specs.declared.drafts.Draft.{Draft}
use Rattle.lives.specs.Drafts.{LifeOf}
use Rattle.drafts.specs.Standing.{CarrierOf, Shows}
use Rattle.drafts.specs.Runs.{Answer}

-- the reader's part of the exchange law, about what check and take answer on any source
pub record ReadBack (B : Type 0) {C S : Type 0} (l : Layout) (rows : C → List (List ℕ)) (places : C → ℕ) (rows_in : S → List (List ℕ)) : Type 0 where
  -- check accepts the rows of every draft that was closed, from any source that has them
  pub accepts : (d : Draft B C) (es : List Entry) → LifeOf l {D = Draft B C} {R = Answer} (refusal_in of_draft) (Shows l rows places) d es → state_of d.state ≡ done → (s : S) → rows_in s ≡ rows d.carrier → (r : Result Accepted FileFault) → told r ≡ checked l (rows_in s) → told r ≡ Ok (accepted l es)
  -- what it accepts is the rows of one legal list and of no other, with its count and its sum
  pub backed : (s : S) (a : Accepted) → told (Ok a) ≡ checked l (rows_in s) → OneLegal l (rows_in s) (accepted_of a)
  -- and from those rows take hands out that list's values
  pub hands : (es : List Entry) → Legal l es → (s : S) → rows_in s ≡ rows_of l es → (i n : ℕ) → i < length es → 0 < n → n ≤ length (get_or es i no_entry).values → (t : Result Taken TakeFault) → took t ≡ take_value l (slice_index_or (rows_in s) i []) n → took t ≡ Ok (slice_index_or (get_or es i no_entry).values (n - 1) (num 0))

abbrev pub ReadBackOn : (B : Type 0) {C S : Type 0} → Layout → CarrierOf C → (S → List (List ℕ)) → Type 0
ReadBackOn B l on rows_in = ReadBack B l on.rows on.places rows_in
