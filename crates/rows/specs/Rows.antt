-- What the calls of a source and a carrier answer, and what they leave.
use Rattle.std.specs.Prelude.{◌≡◌, ℕ, ◌+◌, ◌-◌, ◌*◌, ◌/◌, ◌<◌, ◌≤◌, Bool, List, [], ◌∷◌, ◌++◌, length, take, drop, Ok, Err, Result, slice_index_or}
use Rattle.std.specs.List.{flat_map}
use Rattle.refusals.specs.declared.carrier.CarrierFault.{CarrierFault}
use Rattle.refusals.specs.Refusals.{refusal, of_carrier}
use Rattle.rows.specs.Lines.{written, FirstBad}

-- copy_row: the caller's bytes were `before` and are `after`
abbrev pub Copied : List (List ℕ) → ℕ → List ℕ → List ℕ → Result (Unit {0}) CarrierFault → Type 0
Copied rows n before after (Ok u) = (0 < n) × (n ≤ length rows) × (after ≡ slice_index_or rows (n - 1) [])
Copied rows n before after (Err e) = (of_carrier e ≡ refusal 3 n 0) × ((0 < n → length rows < n)) × (after ≡ before)

-- push: the rows were `before` and are `after`
abbrev pub Pushed : List (List ℕ) → List (List ℕ) → ℕ → List ℕ → Result (Unit {0}) CarrierFault → Type 0
Pushed before after places row (Ok u) = (length before < places) × (after ≡ before ++ (row ∷ []))
Pushed before after places row (Err e) = (of_carrier e ≡ refusal 2 places 0) × (places ≤ length before)

-- a refused call leaves the very value that was there
abbrev pub Kept : {C A : Type 0} → C → C → Result A CarrierFault → Type 0
Kept before after (Ok x) = Unit {0}
Kept before after (Err e) = after ≡ before

-- memory in which `row` is written as line k, from 0; every other byte is as it was
abbrev pub put : ℕ → (List ℕ → List ℕ) → List ℕ → ℕ → List ℕ → List ℕ
put size line memory k row = written memory (k * size) size (line row)

-- an accepted push: the memory was `before`, with `held` rows, and is `after`
abbrev pub PutDown : ℕ → (List ℕ → List ℕ) → ℕ → List ℕ → List ℕ → List ℕ → Result (Unit {0}) CarrierFault → Type 0
PutDown size line held before after row (Ok u) = after ≡ put size line before held row
PutDown size line held before after row (Err e) = after ≡ before

-- rows put down one after the other, from line `held` on
abbrev pub put_all : ℕ → (List ℕ → List ℕ) → List ℕ → ℕ → List (List ℕ) → List ℕ
put_all size line memory held [] = memory
put_all size line memory held (row ∷ rows) = put_all size line (put size line memory held row) (held + 1) rows

-- copy_all: the rows `from` go to a carrier that held `before` and holds `after`; where places run out, as many as fitted
abbrev pub Moved : List (List ℕ) → List (List ℕ) → List (List ℕ) → ℕ → Result ℕ CarrierFault → Type 0
Moved from before after places (Ok n) = (n ≡ length from) × (length from ≤ places - length before) × (after ≡ before ++ from)
Moved from before after places (Err e) = (of_carrier e ≡ refusal 2 places 0) × (places - length before < length from) × (after ≡ before ++ take (places - length before) from)

-- copy_all: what the memory holds, where `held` rows stood and `left` stand now
abbrev pub MovedBytes : ℕ → (List ℕ → List ℕ) → List (List ℕ) → ℕ → List ℕ → List ℕ → ℕ → Type 0
MovedBytes size line from held before after left = after ≡ put_all size line before held (take (left - held) from)

-- open: the bytes break the form, and the fault tells where first
abbrev pub BrokenForm : (ℕ → ℕ → Bool) → ℕ → List ℕ → CarrierFault → Type 0
BrokenForm good size bytes e = (at : ℕ) × (of_carrier e ≡ refusal 1 at 0) × FirstBad good size bytes at

-- write_all: the lines of the rows from the start of the memory on, as many as fit, and every byte after them as it was
abbrev pub laid : ℕ → (List ℕ → List ℕ) → List (List ℕ) → List ℕ → List ℕ
laid size line rows memory = flat_map line rows ++ drop (length rows * size) memory

abbrev pub Laid : ℕ → (List ℕ → List ℕ) → List (List ℕ) → List ℕ → List ℕ → Result ℕ CarrierFault → Type 0
Laid size line from before after (Ok n) = (n ≡ length from) × (length from ≤ length before / size) × (after ≡ laid size line from before)
Laid size line from before after (Err e) = (of_carrier e ≡ refusal 2 (length before / size) 0) × (length before / size < length from) × (after ≡ laid size line (take (length before / size) from) before)
