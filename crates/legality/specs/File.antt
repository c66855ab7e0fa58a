-- Files and legal lists.
use Rattle.std.specs.Prelude.{◌≡◌, ℕ, Bool, false, List, [], ◌∷◌, ◌++◌, length, None, Ok, Result, ◌==◌}
use Rattle.std.specs.List.{AllByRecursion}
use Rattle.refusals.specs.declared.table.Refusal.{Refusal}
use Rattle.refusals.specs.Refusals.{refusal}
use Rattle.refusals.specs.Faults.{and_then, answer, unless}
use Rattle.layouts.specs.Layout.{Layout}
use Rattle.layouts.specs.Lawful.{Lawful}
use Rattle.records.specs.Row.{Entry, entry_of}
use Rattle.legality.specs.Before.{last_of, sum_of, rows_of}
use Rattle.legality.specs.Checks.{row_fault, starts, adds, closes, entry_fault}

-- no check refuses the entries after those before: adds, and a close for the last
abbrev pub Onward : Layout → List Entry → List Entry → Type 0
Onward l before [] = ⊥
Onward l before (e ∷ []) = entry_fault l before closes e ≡ None
Onward l before (e ∷ (x ∷ xs)) = (entry_fault l before adds e ≡ None) × Onward l (before ++ e ∷ []) (x ∷ xs)

-- a start, adds and a close: so a header begins a legal list and a trailer ends it
abbrev pub Legal : Layout → List Entry → Type 0
Legal l [] = ⊥
Legal l (e ∷ es) = (entry_fault l [] starts e ≡ None) × Onward l (e ∷ []) es

pub record Accepted : Type 0 where
  pub rows : ℕ
  pub sum : ℕ

abbrev pub accepted : Layout → List Entry → Accepted
accepted l es = record { rows = length es; sum = sum_of l es }

abbrev pub closed : Layout → List Entry → Bool
closed l [] = false
closed l (e ∷ es) = (last_of e es).mark == l.trailer

-- row by row, each after the entries of the rows before; at the end 28, or the count and the sum
abbrev pub checked_after : Layout → List Entry → List (List ℕ) → Result Accepted Refusal
checked_after l before [] = answer (unless (closed l before) (refusal 28 (length before) 0)) (accepted l before)
checked_after l before (row ∷ rows) = and_then (answer (row_fault l before row) (entry_of l row)) (λ e. checked_after l (before ++ e ∷ []) rows)

abbrev pub checked : Layout → List (List ℕ) → Result Accepted Refusal
checked l rows = checked_after l [] rows

abbrev pub Whole : List (List ℕ) → Type 0
Whole rows = AllByRecursion (λ row. length row ≡ 750) rows

-- THE FILE LAW: what the check accepts are the rows of a legal list, of one only, and of every one
pub record FileLaw (l : Layout) : Type 0 where
  pub backed : (rows : List (List ℕ)) (a : Accepted) → Whole rows → checked l rows ≡ Ok a → (es : List Entry) × Legal l es × (rows_of l es ≡ rows) × (a ≡ accepted l es)
  pub passes : (es : List Entry) → Legal l es → Whole (rows_of l es) × (checked l (rows_of l es) ≡ Ok (accepted l es))
  pub alone : (es fs : List Entry) → Legal l es → Legal l fs → rows_of l es ≡ rows_of l fs → es ≡ fs

abbrev pub FilesKeepTheLaw : Type 0
FilesKeepTheLaw = (l : Layout) → Lawful l → FileLaw l
