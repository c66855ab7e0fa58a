-- What stands in a row, field by field, and what is read in one go.
use Rattle.std.proofs.Common.{◌≡◌, ℕ, zero, suc, ◌+◌, ◌-◌, ◌<◌, ◌≤◌, List, [], ◌∷◌, length, take, drop, Some, None, Ok, Err, Option, Result, sym, refl, ap, ◌∙◌, le_of_suc-le-suc, not-suc-le-zero, arith}
use Rattle.std.proofs.lemmas.List.{drop-drop}
use Rattle.fields.specs.declared.flaws.Flaw.{Flaw}
use Rattle.refusals.specs.Faults.{Fault, and_then, first_some, fault_in, ok_or, answer}
use Rattle.fields.specs.Field.{Field, family, num, txt, Cell, filled, read_field}
use Rattle.fields.specs.InRow.{at_field, part}
use Rattle.layouts.specs.Layout.{field_at}
use Rattle.layouts.specs.Lawful.{Covers}
use Rattle.records.specs.Cells.{Origin, of_book, entered, reckoned, origin, origins, read_cells, digits_in}
use Rattle.records.specs.Conditions.{number_in, cell_at, filled_at}
use Rattle.records.specs.Held.{cell_in, cells_in, fields_fault, worked_next, digits_held}
use Rattle.records.specs.declared.parted.PartedRow.{PartedRow}
use Rattle.records.specs.Parted.{fields_in, held, HasPlace}
use Rattle.records.proofs.Cells.{Shape, Shaped}

pub cell_at_lem : (fs : List Field) (row : List ℕ) (i : ℕ) → i < length fs → cell_in (field_at fs i) row ≡ cell_at (cells_in fs row) i
cell_at_lem [] row i l = absurd (not-suc-le-zero l)
cell_at_lem (f ∷ fs) row zero l = refl
cell_at_lem (f ∷ fs) row (suc i) l = cell_at_lem fs row i (le_of_suc-le-suc l)

-- the field that a place names, and what it holds
module _ (r : PartedRow) (i : ℕ) (h : HasPlace r i) (f : Field) (e : f ≡ field_at (fields_in r) i) where
  pub held_at : cell_in f r.row.now ≡ cell_at (held r) i
  held_at = rw e (cell_at_lem (fields_in r) r.row.now i h)

  pub filled_at_lem : filled (family f.sort) (cell_in f r.row.now) ≡ filled_at (fields_in r) (held r) i
  filled_at_lem = rw e (ap (filled (family (field_at (fields_in r) i).sort)) (cell_at_lem (fields_in r) r.row.now i h))

-- one field and the fields after it
joined : (f : Field) (r : Result Cell Flaw) (o : Option Fault) (cs : List Cell) → and_then (at_field f r) (λ c. and_then (answer o cs) (λ cs. Ok (c ∷ cs))) ≡ answer (first_some (fault_in (at_field f r) ∷ (o ∷ []))) (ok_or None r ∷ cs)
joined f (Ok c) None cs = refl
joined f (Ok c) (Some h) cs = refl
joined f (Err e) o cs = refl

-- fields that stand one after the other from position p are read as each is read at its own positions
pub read_held : (p : ℕ) (fs : List Field) (row : List ℕ) → 1 ≤ p → Covers p fs → read_cells fs (drop (p - 1) row) ≡ answer (fields_fault fs row) (cells_in fs row)
read_held p [] row h c = refl
read_held p (f ∷ fs) row h c =
    let s : f.start ≡ p = c.0 in
    let here : read_field f (take f.width (drop (p - 1) row)) ≡ read_field f (part f row) = ap (λ q. read_field f (take f.width (drop (q - 1) row))) (sym s) in
    let next : p - 1 + f.width ≡ p + f.width - 1 = omega arith in
    let rest : drop f.width (drop (p - 1) row) ≡ drop (p + f.width - 1) row = drop-drop f.width (p - 1) row ∙ ap (λ k. drop k row) next in
    let after : read_cells fs (drop f.width (drop (p - 1) row)) ≡ answer (fields_fault fs row) (cells_in fs row) = ap (read_cells fs) rest ∙ read_held (p + f.width) fs row (omega arith) c.1 in
    ap (λ r. and_then (at_field f r) (λ c. and_then (read_cells fs (drop f.width (drop (p - 1) row))) (λ cs. Ok (c ∷ cs)))) here
    ∙ ap (λ r. and_then (at_field f (read_field f (part f row))) (λ c. and_then r (λ cs. Ok (c ∷ cs)))) after
    ∙ joined f (read_field f (part f row)) (fields_fault fs row) (cells_in fs row)

-- the digits of worked fields, gathered and looked up
digits_next : (o : Origin) (c : Cell) (os : List Origin) (cs : List Cell) (ds : List ℕ) → Shape o c → digits_in os cs ≡ ds → digits_in (o ∷ os) (c ∷ cs) ≡ worked_next o (number_in c) ds
digits_next of_book c os cs ds h e = e
digits_next (entered p) c os cs ds h e = e
digits_next (reckoned s k) None os cs ds h e = absurd h
digits_next (reckoned s k) (Some (num n)) os cs ds h e = ap (λ l. n ∷ l) e
digits_next (reckoned s k) (Some (txt t)) os cs ds h e = absurd h

pub digits_in_lem : (fs : List Field) (row : List ℕ) → Shaped (origins fs) (cells_in fs row) → digits_in (origins fs) (cells_in fs row) ≡ digits_held fs row
digits_in_lem [] row h = refl
digits_in_lem (f ∷ fs) row h = digits_next (origin f) (cell_in f row) (origins fs) (cells_in fs row) (digits_held fs row) h.0 (digits_in_lem fs row h.1)
