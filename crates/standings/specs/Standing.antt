-- Which lists of entries the program's record stands for. Nothing else in these definitions knows that record.
use Rattle.std.specs.Prelude.{◌≡◌, ℕ, ◌+◌, ◌≤◌, true, List, [], ◌∷◌, ◌++◌, length, Some, None, Option}
use Rattle.refusals.specs.Faults.{Fault, first_some}
use Rattle.numbers.specs.declared.cents.Cents.{Cents}
use Rattle.layouts.specs.declared.kinds.Kind.{Kind}
use Rattle.layouts.specs.Layout.{Layout, Group, field_at}
use Rattle.layouts.specs.Meaning.{owns}
use Rattle.records.specs.Conditions as held
use Rattle.records.specs.Held.{cell_in}
use Rattle.records.specs.Row.{Entry, fields_of, mark_of, entry_of, row_faults}
use Rattle.standings.specs.declared.next.NextRow.{NextRow}
use Rattle.standings.specs.declared.owner.Owner.{Owner}
use Rattle.standings.specs.declared.progress.Progress.{Progress}
use Rattle.legality.specs.Before.{no_entry, sum_of}
use Rattle.legality.specs.Checks.{bound}
use Rattle.legality.specs.Progress as s

abbrev pub mark_in : Option Kind → Option ℕ
mark_in None = None
mark_in (Some k) = Some k.mark

abbrev pub number_in : Option Owner → ℕ
number_in None = 0
number_in (Some o) = o.number

abbrev pub entry_in : Layout → Option Owner → Entry
entry_in l None = no_entry
entry_in l (Some o) = entry_of l o.row

-- what the program's record says of the entries before
abbrev pub said : Layout → Progress → s.Progress
said l p = record {
  rows = p.rows;
  last = mark_in p.last;
  owner_at = number_in p.owner;
  owner = entry_in l p.owner;
  following = p.following;
  sum = p.sum.value;
  counted = p.counted;
}

-- a row that is read as an entry
pub record Good (l : Layout) (row : List ℕ) : Type 0 where
  pub long : length row ≡ 750
  pub sound : first_some (row_faults l row) ≡ None

-- the row that is kept of the last owner is a good row of an owner
pub record GoodOwner (l : Layout) (o : Owner) : Type 0 where
  pub good : Good l o.row
  pub owner : owns l.group (mark_of o.row) ≡ true

abbrev pub KeptOwner : Layout → Option Owner → Type 0
KeptOwner l None = Unit {0}
KeptOwner l (Some o) = GoodOwner l o

-- the record stands for a list, of as many entries as a file may have
pub record Stands (l : Layout) (p : Progress) (es : List Entry) : Type 0 where
  pub few : length es ≤ 65535
  pub says : said l p ≡ s.progress_of l es
  pub keeps : KeptOwner l p.owner

-- a row that was read, after the entries es, as one of the kind, with the number n
pub record Next (l : Layout) (es : List Entry) (n : ℕ) (kind : Kind) (row : List ℕ) : Type 0 where
  pub number : n ≡ length es + 1
  pub few : n ≤ 65535
  pub marked : kind.mark ≡ mark_of row
  pub good : Good l row

-- the entry of a row, and the entries with it
abbrev pub entry_of_next : Layout → NextRow → Entry
entry_of_next l next = entry_of l next.row.now

abbrev pub with_next : Layout → List Entry → NextRow → List Entry
with_next l es next = es ++ entry_of_next l next ∷ []

-- a row that is read as an entry, of the kind that it is taken for
pub record IsRead (l : Layout) (next : NextRow) : Type 0 where
  pub good : Good l next.row.now
  pub marked : next.kind.mark ≡ mark_of next.row.now

-- and after the entries es, with the number that it is taken for
abbrev pub IsNext : Layout → List Entry → NextRow → Type 0
IsNext l es next = Next l es next.number next.kind next.row.now

-- what the entries and the row sum up to
abbrev pub IsSumWith : Layout → List Entry → NextRow → Cents → Type 0
IsSumWith l es next sum = sum.value ≡ sum_of l (with_next l es next)

-- what binds a follower's row to its owner's
abbrev pub bound_by : Layout → Group → List ℕ → List ℕ → Option Fault
bound_by l g owner row = bound l g (held.number_in (cell_in (field_at (fields_of l g.owner) g.owner_type) owner)) (held.text_in (cell_in (field_at (fields_of l g.owner) g.owner_identifier) owner)) (held.text_in (cell_in (field_at (fields_of l g.follower) g.follower_identifier) row))
