-- THE EXCHANGE LAW of a lawful book.
use Rattle.std.specs.Prelude.{◌≡◌, ℕ, ◌-◌, ◌<◌, ◌≤◌, List, [], map, length, get_or, None, Ok, Option, slice_index_or}
use Rattle.std.specs.List.{AllByRecursion}
use Rattle.refusals.specs.declared.table.Refusal.{Refusal}
use Rattle.fields.specs.Field.{num}
use Rattle.layouts.specs.Layout.{Layout}
use Rattle.layouts.specs.Lawful.{Lawful}
use Rattle.records.specs.Row.{Entry, take_value}
use Rattle.legality.specs.Before.{rows_of, no_entry}
use Rattle.legality.specs.File.{Legal, Accepted, accepted, checked, Whole}
use Rattle.records.specs.Entries.{Handed, meant}
use Rattle.lives.specs.Draft.{Moment, done}
use Rattle.lives.specs.Life.{Life, Ran, beginning, in_order, Inside}

pub record Exchange (l : Layout) : Type 0 where
  -- (a) at every moment of every life the carrier holds the rows of the entries taken so far
  pub holds : (v : Moment) (es : List Entry) → Life l v es → v.rows ≡ rows_of l es
  -- (b) two closed lives hold the same rows exactly when they took the same entries
  pub tells : (v w : Moment) (es fs : List Entry) → Life l v es → Life l w fs → v.state ≡ done → w.state ≡ done → (v.rows ≡ w.rows → es ≡ fs) × (es ≡ fs → v.rows ≡ w.rows)
  -- (c) the check accepts the rows of every closed life
  pub accepts : (v : Moment) (es : List Entry) → Life l v es → v.state ≡ done → Whole v.rows × (checked l v.rows ≡ Ok (accepted l es))
  -- what it accepts are the rows of one legal list, and of no other
  pub backed : (rows : List (List ℕ)) (a : Accepted) → Whole rows → checked l rows ≡ Ok a → (es : List Entry) × Legal l es × (rows_of l es ≡ rows) × (a ≡ accepted l es) × ((fs : List Entry) → Legal l fs → rows_of l fs ≡ rows → fs ≡ es)
  -- take hands out that list's values from those rows
  pub hands : (es : List Entry) → Legal l es → (i n : ℕ) → i < length es → 0 < n → n ≤ length (get_or es i no_entry).values → take_value l (slice_index_or (rows_of l es) i []) n ≡ Ok (slice_index_or (get_or es i no_entry).values (n - 1) (num 0))
  -- every list of entries can be handed in
  pub handed : (es : List Entry) → (hs : List Handed) × (map meant hs ≡ es) × AllByRecursion Inside hs
  -- and a fresh draft that is handed that list, from any pools, with a place for each row takes every entry and closes on those rows
  pub takes : (es : List Entry) → Legal l es → (hs : List Handed) → map meant hs ≡ es → AllByRecursion Inside hs → (places : ℕ) → length es ≤ places → (rs : List (Option Refusal)) (v : Moment) → Ran l (beginning places) (in_order hs) rs v → AllByRecursion (λ r. r ≡ None) rs × (v.state ≡ done) × (v.rows ≡ rows_of l es)

abbrev pub ExchangeLaw : Type 0
ExchangeLaw = (l : Layout) → Lawful l → Exchange l
