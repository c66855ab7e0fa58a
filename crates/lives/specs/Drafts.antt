-- Any type of drafts whose calls keep to these words: its lives, and THE EXCHANGE LAW about them.
use Rattle.std.specs.Prelude.{◌≡◌, ℕ, ◌-◌, ◌<◌, ◌≤◌, List, [], ◌∷◌, map, length, get_or, None, Ok, Option, slice_index_or}
use Rattle.std.specs.List.{AllByRecursion}
use Rattle.refusals.specs.declared.table.Refusal.{Refusal}
use Rattle.fields.specs.Field.{num}
use Rattle.layouts.specs.Layout.{Layout}
use Rattle.records.specs.Row.{Entry, take_value}
use Rattle.records.specs.Entries.{Handed, meant}
use Rattle.legality.specs.Before.{rows_of, no_entry}
use Rattle.legality.specs.Checks.{Call}
use Rattle.legality.specs.File.{Legal, Accepted, accepted, checked, Whole}
use Rattle.lives.specs.Draft.{State, done, Moment, judged, next}
use Rattle.lives.specs.Life.{Life, beginning, taking, Asked, in_order, Inside}

-- D are drafts and R answers; `refused` tells an answer's refusal, and `Shows d v` that the draft d stands for the moment v
module _ (l : Layout) {D R : Type 0} (refused : R → Option Refusal) (Shows : D → Moment → Type 0) where
  -- what start, add and close each promise, of every moment that the draft stands for
  abbrev pub Called : D → Call → Handed → R → D → Type 0
  Called d c h r d' = (v : Moment) → Shows d v → (refused r ≡ judged l v c h) × Shows d' (next l (judged l v c h) v c h)

  -- a life: fresh on an empty carrier at first, then start, add and close alone, accepted and refused in any mixture, with the entries taken
  pub data LifeOf : D → List Entry → Type 0 where
    begun : (d : D) (places : ℕ) → Shows d (beginning places) → LifeOf d []
    called : (d d' : D) (taken : List Entry) (c : Call) (h : Handed) (r : R) → LifeOf d taken → Called d c h r d' → LifeOf d' (taking (refused r) taken (meant h))

  -- calls one after the other, with their answers
  abbrev pub RanOf : D → List Asked → List R → D → Type 0
  RanOf d [] [] d' = d ≡ d'
  RanOf d [] (r ∷ rs) d' = ⊥
  RanOf d (q ∷ qs) [] d' = ⊥
  RanOf d (q ∷ qs) (r ∷ rs) d' = (e : D) × Called d q.call q.handed r e × RanOf e qs rs d'

  abbrev pub LivesALife : Type 0
  LivesALife = (d : D) (es : List Entry) → LifeOf d es → (v : Moment) × Shows d v × Life l v es

-- what can be seen of a draft: its carrier's rows and places, and its state
pub record Seen (D : Type 0) : Type 0 where
  pub rows : D → List (List ℕ)
  pub places : D → ℕ
  pub state : D → State

-- a draft shows only moments with what can be seen of it
abbrev pub Faithful : {D : Type 0} → (D → Moment → Type 0) → Seen D → Type 0
Faithful {D} Shows seen = (d : D) (v : Moment) → Shows d v → (seen.rows d ≡ v.rows) × (seen.places d ≡ v.places) × (seen.state d ≡ v.state)

-- THE EXCHANGE LAW of a book, about drafts of two types, like or unlike
pub record ExchangeOf (l : Layout) {D R : Type 0} (refused : R → Option Refusal) (Shows : D → Moment → Type 0) (seen : Seen D) {E S : Type 0} (refused' : S → Option Refusal) (Shows' : E → Moment → Type 0) (seen' : Seen E) : Type 0 where
  -- (a) at every moment of every life the carrier holds exactly the rows of the entries taken so far
  pub holds : (d : D) (es : List Entry) → LifeOf l refused Shows d es → seen.rows d ≡ rows_of l es
  -- (b) two drafts that were closed have equal rows exactly when they took equal entries in equal order
  pub tells : (d : D) (e : E) (es fs : List Entry) → LifeOf l refused Shows d es → LifeOf l refused' Shows' e fs → seen.state d ≡ done → seen'.state e ≡ done → (seen.rows d ≡ seen'.rows e → es ≡ fs) × (es ≡ fs → seen.rows d ≡ seen'.rows e)
  -- (c) the check accepts the rows of every draft that was closed, with their number and their sum
  pub accepts : (d : D) (es : List Entry) → LifeOf l refused Shows d es → seen.state d ≡ done → Whole (seen.rows d) × (checked l (seen.rows d) ≡ Ok (accepted l es))
  -- what it accepts are the rows of one legal list, and of no other
  pub backed : (rows : List (List ℕ)) (a : Accepted) → Whole rows → checked l rows ≡ Ok a → (es : List Entry) × Legal l es × (rows_of l es ≡ rows) × (a ≡ accepted l es) × ((fs : List Entry) → Legal l fs → rows_of l fs ≡ rows → fs ≡ es)
  -- take hands out that list's values from those rows
  pub hands : (es : List Entry) → Legal l es → (i n : ℕ) → i < length es → 0 < n → n ≤ length (get_or es i no_entry).values → take_value l (slice_index_or (rows_of l es) i []) n ≡ Ok (slice_index_or (get_or es i no_entry).values (n - 1) (num 0))
  -- every list of entries can be handed in
  pub handed : (es : List Entry) → (hs : List Handed) × (map meant hs ≡ es) × AllByRecursion Inside hs
  -- and a fresh draft that is handed that list, from any pools, on an empty carrier with a place for each row takes every entry and closes on those rows
  pub takes : (es : List Entry) → Legal l es → (hs : List Handed) → map meant hs ≡ es → AllByRecursion Inside hs → (d d' : D) (rs : List R) → Shows d (beginning (seen.places d)) → length es ≤ seen.places d → RanOf l refused Shows d (in_order hs) rs d' → AllByRecursion (λ r. refused r ≡ None) rs × (seen.state d' ≡ done) × (seen.rows d' ≡ rows_of l es)
