-- What a draft of the program stands for, and what its calls promise.
use Rattle.std.specs.Prelude.{◌≡◌, ℕ, ◌+◌, ◌<◌, ◌≤◌, List, [], ◌∷◌, ◌++◌, length, slice_index_or, None, Ok, Err, Option, Result}
use Rattle.refusals.specs.declared.table.Refusal.{Refusal}
use Rattle.refusals.specs.declared.draft.DraftFault.{DraftFault}
use Rattle.refusals.specs.Refusals.{refusal, refusal_in, of_draft}
use Rattle.refusals.specs.Faults.{fault, in_row, unless, first_some}
use Rattle.rows.specs.Rows.{put_all}
use Rattle.layouts.specs.Layout.{Layout}
use Rattle.records.specs.Row.{mark10, fields11, conditions15, entry_of}
use Rattle.records.specs.Entries.{Handed, meant, handed31, value_fault}
use Rattle.legality.specs.Checks.{Call, row27, order20, group21, owner22, sum26, asks}
use Rattle.legality.specs.Before.{row_of, sum_of}
use Rattle.standings.specs.Standing.{Stands, Good}
use Rattle.drafts.specs.declared.drafts.Draft.{Draft}
use Rattle.lives.specs.Draft.{Moment, allows}
use Rattle.lives.specs.Drafts.{Seen, Called}
use Rattle.lives.specs.States.{state_of}

-- the moments that a draft stands for: every list of entries that its record stands for, with its state and its carrier's rows and places
abbrev pub Shows : {B C : Type 0} → Layout → (C → List (List ℕ)) → (C → ℕ) → Draft B C → Moment → Type 0
Shows l rows places d v = (state_of d.state ≡ v.state) × Stands l d.progress v.entries × (rows d.carrier ≡ v.rows) × (places d.carrier ≡ v.places)

abbrev pub seen_in : {B C : Type 0} → (C → List (List ℕ)) → (C → ℕ) → Seen (Draft B C)
seen_in rows places = record { rows = λ d. rows d.carrier; places = λ d. places d.carrier; state = λ d. state_of d.state }

-- what the bound of a type of carriers says of its values: `C.Carrier` of a clause
abbrev pub CarrierOf : Type 0 → Type 0
CarrierOf C = record {
  rows : C → List (List ℕ);
  whole : (c : C) (k : ℕ) → k < length (rows c) → length (slice_index_or (rows c) k []) ≡ 750;
  places : C → ℕ;
  memory : C → List ℕ;
  size : ℕ;
  line : List ℕ → List ℕ;
  lenders : C → List ℕ;
}

-- the same, and what a call promises of every moment, where these carriers are meant
abbrev pub ShowsOn : {B C : Type 0} → Layout → CarrierOf C → Draft B C → Moment → Type 0
ShowsOn l on d v = Shows l on.rows on.places d v

abbrev pub CalledOn : {B C : Type 0} → Layout → CarrierOf C → Draft B C → Call → Handed → Result (Unit {0}) DraftFault → Draft B C → Type 0
CalledOn l on d c h r d' = Called l (refusal_in of_draft) (ShowsOn l on) d c h r d'

-- a refused call leaves the very draft that was there
abbrev pub Kept : {D : Type 0} → D → D → Result (Unit {0}) DraftFault → Type 0
Kept before after (Ok u) = Unit {0}
Kept before after (Err e) = after ≡ before

-- what a draft's calls leave below it: the rows that were added, each as a line at its place of the memory, every other byte as
-- it was, and the same loans and book
pub record Wrote {B C : Type 0} (rows : C → List (List ℕ)) (memory lenders : C → List ℕ) (size : ℕ) (line : List ℕ → List ℕ) (d d' : Draft B C) : Type 0 where
  pub added : List (List ℕ)
  pub behind : rows d'.carrier ≡ rows d.carrier ++ added
  pub lines : memory d'.carrier ≡ put_all size line (memory d.carrier) (length (rows d.carrier)) added
  pub loans : lenders d'.carrier ≡ lenders d.carrier
  pub book : d'.book ≡ d.book

abbrev pub WroteOn : {B C : Type 0} → CarrierOf C → Draft B C → Draft B C → Type 0
WroteOn on d d' = Wrote on.rows on.memory on.lenders on.size on.line d d'

-- the checks of a call before its row is printed, in their order
abbrev pub admission : Layout → Moment → Call → Handed → List (Option Refusal)
admission l v c h =
    let n = length v.entries + 1 in
    unless (allows v.state c) (refusal 30 0 0) ∷ (in_row n (row27 n) ∷ (in_row n (mark10 l h.mark) ∷ (value_fault (handed31 l h) ∷ (in_row n (unless (asks l c h.mark) (fault 20 1)) ∷ (in_row n (first_some (order20 l v.entries h.mark ∷ (group21 l v.entries h.mark ∷ []))) ∷ [])))))

-- and of the row
abbrev pub contents : Layout → Moment → Handed → List (Option Refusal)
contents l v h =
    let n = length v.entries + 1 in
    in_row n (fields11 l (meant h)) ∷ (in_row n (conditions15 l (meant h)) ∷ (in_row n (owner22 l v.entries (meant h)) ∷ (in_row n (sum26 l v.entries (meant h)) ∷ [])))

-- an entry that was admitted as the next: its row's number and its kind's mark
pub record Ready (l : Layout) (v : Moment) (h : Handed) (number mark : ℕ) : Type 0 where
  pub next : number ≡ length v.entries + 1
  pub few : number ≤ 65535
  pub marked : mark ≡ h.mark
  pub known : mark10 l h.mark ≡ None
  pub valued : handed31 l h ≡ None

-- a row that may be pushed for the entry, and the sum with it
pub record Fit (l : Layout) (v : Moment) (h : Handed) (row : List ℕ) (sum : ℕ) : Type 0 where
  pub is : row ≡ row_of l v.entries (meant h)
  pub good : Good l row
  pub read : entry_of l row ≡ meant h
  pub sums : sum ≡ sum_of l (v.entries ++ meant h ∷ [])
