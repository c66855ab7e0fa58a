-- How the first of several refusals is found, also where the row is not yet known.
use Rattle.std.specs.Prelude.{ℕ, Bool, cond, List, [], ◌∷◌, Some, None, Ok, Err, Option, Result}
use Rattle.refusals.specs.declared.table.Refusal.{Refusal}
use Rattle.refusals.specs.Refusals.{refusal}

-- a refusal where the row is not yet known: its number and its position
pub record Fault : Type 0 where
  pub number : ℕ
  pub position : ℕ

abbrev pub fault : ℕ → ℕ → Fault
fault n p = record { number = n; position = p }

abbrev pub in_row : ℕ → Option Fault → Option Refusal
in_row r None = None
in_row r (Some f) = Some (refusal f.number r f.position)

-- go on with what is there, or pass the fault on
abbrev pub and_then : {A B E : Type 0} → Result A E → (A → Result B E) → Result B E
and_then (Ok x) f = f x
and_then (Err e) f = Err e

abbrev pub unless : {F : Type 0} → Bool → F → Option F
unless b f = cond b None (Some f)

-- the first that is there
abbrev pub first_some : {F : Type 0} → List (Option F) → Option F
first_some [] = None
first_some (None ∷ fs) = first_some fs
first_some (Some f ∷ fs) = Some f

abbrev pub fault_in : {A F : Type 0} → Result A F → Option F
fault_in (Ok x) = None
fault_in (Err f) = Some f

-- what is there, or else d
abbrev pub ok_or : {A F : Type 0} → A → Result A F → A
ok_or d (Ok x) = x
ok_or d (Err f) = d

abbrev pub answer : {A F : Type 0} → Option F → A → Result A F
answer None x = Ok x
answer (Some f) x = Err f
