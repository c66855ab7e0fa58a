-- Checks one after the other, and rows one after the other.
use Rattle.std.proofs.Common.{◌≡◌, ℕ, ◌+◌, ◌-◌, ◌<◌, ◌≤◌, Bool, true, List, [], ◌∷◌, ◌++◌, map, length, take, drop, Some, None, Ok, Err, Option, Result, sym, ap, ◌∙◌, subst, arith}
use Rattle.std.proofs.lemmas.List.{map_more, drop_more, drop_all}
use Rattle.refusals.specs.declared.carrier.CarrierFault.{CarrierFault}
use Rattle.refusals.specs.declared.table.Refusal.{Refusal}
use Rattle.refusals.specs.Faults.{Fault, in_row, first_some, and_then, answer}
use Rattle.rows.specs.Rows.{Copied}
use Rattle.fields.specs.Field.{Field, Working}
use Rattle.layouts.specs.Layout.{Layout}
use Rattle.layouts.specs.Lawful.{Lawful}
use Rattle.records.specs.declared.entries.Worked.{Worked}
use Rattle.records.specs.Cells.{origins}
use Rattle.records.specs.Held.{digits_held}
use Rattle.records.specs.Row.{Entry, fields_of, origins_of, entry_of, digits_of}
use Rattle.records.specs.Worked.{worked_of}
use Rattle.records.proofs.Options.{some_none}
use Rattle.legality.specs.Before.{reckon}
use Rattle.legality.specs.Checks.{first_wrong, wrong, read_checks, work_checks, row_fault}
use Rattle.legality.specs.File.{Accepted, checked_after, checked}
use Rattle.standings.specs.declared.next.NextRow.{NextRow}
use Rattle.standings.specs.declared.progress.Progress.{Progress}
use Rattle.standings.specs.Standing.{Stands, IsNext, entry_of_next, with_next}
use Rattle.standings.proofs.Holding.{digits_held_lem}
use Rattle.standings.proofs.Wrong.{same_wrong}

-- a check that is the last
pub only : (n : ℕ) (x : Option Refusal) (a : Option Fault) → x ≡ in_row n a → x ≡ in_row n (first_some (a ∷ []))
only n x None e = e
only n x (Some f) e = e

-- one of the checks refuses
pub all_here : (n : ℕ) (r : Refusal) (xs ys : List (Option Fault)) → Some r ≡ in_row n (first_some xs) → Some r ≡ in_row n (first_some (xs ++ ys))
all_here n r [] ys e = some_none e
all_here n r (None ∷ xs) ys e = all_here n r xs ys e
all_here n r (Some f ∷ xs) ys e = e

-- they pass
pub skip_all : (n : ℕ) (x : Option Refusal) (xs ys : List (Option Fault)) → None ≡ in_row n (first_some xs) → x ≡ in_row n (first_some ys) → x ≡ in_row n (first_some (xs ++ ys))
skip_all n x [] ys p e = e
skip_all n x (None ∷ xs) ys p e = skip_all n x xs ys p e
skip_all n x (Some f ∷ xs) ys p e = some_none (sym p)

-- and so with a single one
pub here : (n : ℕ) (r : Refusal) (a : Option Fault) (rest : List (Option Fault)) → Some r ≡ in_row n a → Some r ≡ in_row n (first_some (a ∷ rest))
here n r a rest e = all_here n r (a ∷ []) rest (only n (Some r) a e)

pub skip : (n : ℕ) (x : Option Refusal) (a : Option Fault) (rest : List (Option Fault)) → None ≡ in_row n a → x ≡ in_row n (first_some rest) → x ≡ in_row n (first_some (a ∷ rest))
skip n x a rest p e = skip_all n x (a ∷ []) rest (only n None a p) e

-- the worked fields of a good row, where the numbers that are looked at are those that the entries before give
pub wrong_held : (l : Layout) → Lawful l → (es : List Entry) (next : NextRow) → IsNext l es next → (fs : List Field) → fs ≡ fields_of l next.kind.mark → (j : ℕ) (looked : Working → Bool) (w : Worked) → ((k : Working) → looked k ≡ true → worked_of w k ≡ reckon l es (entry_of_next l next) k) → (x : Option Refusal) → x ≡ in_row next.number (first_wrong j looked (worked_of w) (origins fs) (digits_held fs next.row.now)) → x ≡ in_row next.number (wrong j looked l es next.row.now)
wrong_held l law es next here fs is j looked w right x e =
    let row = next.row.now in
    let before = reckon l es (entry_of_next l next) in
    e ∙ ap (in_row next.number)
    (same_wrong j looked (worked_of w) before right (origins fs) (digits_held fs row)
    ∙ ap (λ fs. first_wrong j looked before (origins fs) (digits_held fs row)) is
    ∙ ap (first_wrong j looked before (origins_of l next.kind.mark)) (digits_held_lem l law row here.good next.kind.mark here.marked)
    ∙ ap (λ m. first_wrong j looked before (origins_of l m) (digits_of l row)) here.marked)

-- what is found of the next row, in the words of the bytes that were read
module _ (l : Layout) (es : List Entry) (row : List ℕ) (next : NextRow) (read : None ≡ in_row (length es + 1) (first_some (read_checks l es row))) (is : IsNext l es next) (same : next.row.now ≡ row) where
  pub worked_at : (x : Option Refusal) → (IsNext l es next → x ≡ in_row next.number (first_some (work_checks l es next.row.now))) → row_fault l es row ≡ x
  worked_at x e = sym (skip_all (length es + 1) x (read_checks l es row) (work_checks l es row) read (e is ∙ ap (λ n. in_row n (first_some (work_checks l es next.row.now))) is.number ∙ ap (λ row. in_row (length es + 1) (first_some (work_checks l es row))) same))

  pub stands_at : (p : Progress) → Stands l p (with_next l es next) → Stands l p (es ++ entry_of l row ∷ [])
  stands_at p s = subst (λ row. Stands l p (es ++ entry_of l row ∷ [])) same s

-- one row of the check
passes : (l : Layout) (es : List Entry) (row : List ℕ) (rows : List (List ℕ)) (o : Option Refusal) → o ≡ None → and_then (answer o (entry_of l row)) (λ e. checked_after l (es ++ e ∷ []) rows) ≡ checked_after l (es ++ entry_of l row ∷ []) rows
passes l es row rows o h = rw h

fails : (l : Layout) (es : List Entry) (row : List ℕ) (rows : List (List ℕ)) (o : Option Refusal) (x : Refusal) → o ≡ Some x → and_then (answer o (entry_of l row)) (λ e. checked_after l (es ++ e ∷ []) rows) ≡ Err x
fails l es row rows o x h = rw h

-- the entries of the first i rows
abbrev pub entries_to : Layout → List (List ℕ) → ℕ → List Entry
entries_to l rows i = map (entry_of l) (take i rows)

-- the first i rows are taken
pub record TakenTo (l : Layout) (rows : List (List ℕ)) (i : ℕ) (p : Progress) : Type 0 where
  pub stands : Stands l p (entries_to l rows i)
  pub rest : checked_after l (entries_to l rows i) (drop i rows) ≡ checked l rows

-- row n is copied after those before it
module _ (l : Layout) (rows : List (List ℕ)) (n : ℕ) (before row : List ℕ) (r : Result (Unit {0}) CarrierFault) (u : Unit {0}) (ok : r ≡ Ok u) (was : Copied rows n before row r) (p : Progress) (taken : TakenTo l rows (n - 1) p) where
  copied : Copied rows n before row (Ok u)
  copied = subst (Copied rows n before row) ok was

  less : n - 1 < length rows
  less = omega (arith, copied.0, copied.1)

  abbrev so_far : List Entry
  so_far = entries_to l rows (n - 1)

  abbrev left : List (List ℕ)
  left = drop (n - 1 + 1) rows

  opens : checked_after l so_far (row ∷ left) ≡ checked l rows
  opens = sym (ap (checked_after l so_far) (drop_more rows (n - 1) [] less ∙ ap (λ x. x ∷ left) (sym copied.2))) ∙ taken.rest

  pub taken_more : (q : Progress) → ((es : List Entry) → Stands l p es → (row_fault l es row ≡ None) × Stands l q (es ++ entry_of l row ∷ [])) → TakenTo l rows (n + 1 - 1) q
  taken_more q takes =
      let z : n - 1 + 1 ≡ n + 1 - 1 = omega (arith, copied.0) in
      let more : entries_to l rows (n - 1 + 1) ≡ so_far ++ entry_of l row ∷ [] = map_more (entry_of l) rows (n - 1) [] less ∙ ap (λ x. so_far ++ entry_of l x ∷ []) (sym copied.2) in
      let h = takes so_far taken.stands in
      subst (λ i. TakenTo l rows i q) z
      (record { stands = subst (Stands l q) (sym more) h.1; rest = ap (λ es. checked_after l es left) more ∙ sym (passes l so_far row left _ h.0) ∙ opens })

  pub taken_stops : (x : Refusal) → ((es : List Entry) → Stands l p es → row_fault l es row ≡ Some x) → Err x ≡ checked l rows
  taken_stops x refuses = sym (fails l so_far row left _ x (refuses so_far taken.stands)) ∙ opens

-- after the last row
pub taken_all : (l : Layout) (rows : List (List ℕ)) (i : ℕ) (p q : Progress) → q ≡ p → length rows ≤ i → TakenTo l rows i p → (r : Result Accepted Refusal) → ((es : List Entry) → Stands l q es → r ≡ checked_after l es []) → r ≡ checked l rows
taken_all l rows i p q is end taken r finished =
    let es = entries_to l rows i in
    finished es (subst (λ p. Stands l p es) (sym is) taken.stands) ∙ sym (ap (checked_after l es) (drop_all i rows end)) ∙ taken.rest
