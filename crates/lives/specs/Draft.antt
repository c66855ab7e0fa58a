-- A call on a draft: what it is handed, what it answers, what it leaves.
use Rattle.std.specs.Prelude.{◌≡◌, ℕ, Bool, true, false, List, [], ◌∷◌, ◌++◌, length, Some, None, Option, nat_lt}
use Rattle.refusals.specs.declared.table.Refusal.{Refusal}
use Rattle.refusals.specs.Refusals.{refusal}
use Rattle.refusals.specs.Faults.{unless, first_some}
use Rattle.layouts.specs.Layout.{Layout}
use Rattle.records.specs.Row.{Entry}
use Rattle.records.specs.Entries.{Handed, meant, handed31}
use Rattle.legality.specs.Before.{row_of}
use Rattle.legality.specs.Checks.{Call, starts, adds, closes, checks_with}

pub data State : Type 0 where
  fresh : State
  opened : ℕ → State
  done : State

-- a draft at a moment: its state, the entries that it has taken, and its carrier's rows and places
pub record Moment : Type 0 where
  pub state : State
  pub entries : List Entry
  pub rows : List (List ℕ)
  pub places : ℕ

abbrev pub moment : State → List Entry → List (List ℕ) → ℕ → Moment
moment s es rows places = record { state = s; entries = es; rows = rows; places = places }

-- start needs fresh, add and close need open
abbrev pub allows : State → Call → Bool
allows fresh starts = true
allows fresh adds = false
allows fresh closes = false
allows (opened m) starts = false
allows (opened m) adds = true
allows (opened m) closes = true
allows done starts = false
allows done adds = false
allows done closes = false

abbrev pub state_after : Call → ℕ → State
state_after starts m = opened m
state_after adds m = opened m
state_after closes m = done

-- 30, then 27, 10, 31 and the entry's checks, and 2 last
abbrev pub judged : Layout → Moment → Call → Handed → Option Refusal
judged l v c h =
    first_some (unless (allows v.state c) (refusal 30 0 0) ∷ (checks_with (handed31 l h) l v.entries c (meant h) ∷ (unless (nat_lt (length v.rows) v.places) (refusal 2 v.places 0) ∷ [])))

abbrev pub next : Layout → Option Refusal → Moment → Call → Handed → Moment
next l (Some r) v c h = v
next l None v c h = moment (state_after c h.mark) (v.entries ++ meant h ∷ []) (v.rows ++ row_of l v.entries (meant h) ∷ []) v.places

-- what start, add and close each say: the refusal, or none, and the moment after
pub record Stepped (l : Layout) (v : Moment) (c : Call) (h : Handed) (r : Option Refusal) (v' : Moment) : Type 0 where
  pub answers : r ≡ judged l v c h
  pub leaves : v' ≡ next l (judged l v c h) v c h
