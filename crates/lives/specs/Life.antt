-- A draft's life: start, add and close alone, accepted and refused in any mixture.
use Rattle.std.specs.Prelude.{◌≡◌, ℕ, true, List, [], ◌∷◌, ◌++◌, Some, None, Option}
use Rattle.std.specs.List.{AllByRecursion}
use Rattle.refusals.specs.declared.table.Refusal.{Refusal}
use Rattle.layouts.specs.Layout.{Layout}
use Rattle.records.specs.Row.{Entry}
use Rattle.legality.specs.Checks.{Call, starts, adds, closes}
use Rattle.records.specs.Entries.{Handed, meant, inside}
use Rattle.lives.specs.Draft.{fresh, Moment, moment, Stepped}

-- the entries taken, once a call with e was answered
abbrev pub taking : Option Refusal → List Entry → Entry → List Entry
taking None taken e = taken ++ e ∷ []
taking (Some r) taken e = taken

-- a fresh draft on an empty carrier
abbrev pub beginning : ℕ → Moment
beginning places = moment fresh [] [] places

-- a moment of a life, and the entries taken so far
pub data Life (l : Layout) : Moment → List Entry → Type 0 where
  begins : (places : ℕ) → Life l (beginning places) []
  goes_on : (v v' : Moment) (taken : List Entry) (c : Call) (h : Handed) (r : Option Refusal) → Life l v taken → Stepped l v c h r v' → Life l v' (taking r taken (meant h))

-- calls, one after the other
pub record Asked : Type 0 where
  pub call : Call
  pub handed : Handed

abbrev pub ask : Call → Handed → Asked
ask c h = record { call = c; handed = h }

abbrev pub onward : List Handed → List Asked
onward [] = []
onward (h ∷ []) = ask closes h ∷ []
onward (h ∷ (x ∷ xs)) = ask adds h ∷ onward (x ∷ xs)

-- a start, adds and a close
abbrev pub in_order : List Handed → List Asked
in_order [] = []
in_order (h ∷ hs) = ask starts h ∷ onward hs

-- from v the calls lead to w, with these answers
abbrev pub Ran : Layout → Moment → List Asked → List (Option Refusal) → Moment → Type 0
Ran l v [] [] w = v ≡ w
Ran l v [] (r ∷ rs) w = ⊥
Ran l v (q ∷ qs) [] w = ⊥
Ran l v (q ∷ qs) (r ∷ rs) w = (u : Moment) × Stepped l v q.call q.handed r u × Ran l u qs rs w

-- no value lies past its pool
abbrev pub Inside : Handed → Type 0
Inside h = AllByRecursion (λ g. inside h.pool g ≡ true) h.values
