-- The edges of a row, as one table over the definitions that the contracts cite.
use Rattle.std.specs.Prelude.{◌≡◌, ℕ, ◌-◌, ◌^◌, true, List, [], ◌∷◌, replicate, Some, None, Ok, Err, codes, Option, Result}
use Rattle.std.specs.List.{AllByRecursion}
use Rattle.refusals.specs.declared.table.Refusal.{Refusal}
use Rattle.refusals.specs.Refusals.{refusal}
use Rattle.refusals.specs.Faults.{Fault, fault}
use Rattle.fields.specs.Field.{Field, Sort, constant, text, number, date, amount, num, txt, Cell, count, read_field, write_field}
use Rattle.fields.specs.InRow.{at_field}
use Rattle.outgoing_receipts.specs.BookP.{layout_p}
use Rattle.returned_receipts.specs.BookQ.{layout_q}
use Rattle.records.specs.Row.{Entry}
use Rattle.legality.specs.Before.{reckon}
use Rattle.legality.specs.Checks.{starts, adds, closes, entry_fault}

abbrev pub field : ℕ → ℕ → Sort → Field
field s w t = record { start = s; width = w; sort = t; required = true }

-- a content, and the bytes that it is written as, or the refusal at its position
pub record Written : Type 0 where
  pub in' : Field
  pub content : Cell
  pub gives : Result (List ℕ) Fault

abbrev writes : Field → Cell → Result (List ℕ) Fault → Written
writes f c r = record { in' = f; content = c; gives = r }

abbrev pub written : List Written
written =
    writes (field 12 15 text) (Some (txt (codes "PIX"))) (Ok (codes "PIX            ")) ∷
    (writes (field 12 15 (constant (codes "PIX"))) None (Ok (codes "PIX            ")) ∷
    (writes (field 185 17 amount) (Some (num (10 ^ 17 - 1))) (Ok (replicate 17 57)) ∷
    (writes (field 185 17 amount) (Some (num (10 ^ 17))) (Err (fault 13 185)) ∷
    (writes (field 176 8 date) (Some (num 20240229)) (Ok (codes "20240229")) ∷
    (writes (field 176 8 date) (Some (num 20230229)) (Err (fault 13 176)) ∷
    (writes (field 176 8 date) (Some (num 21000229)) (Err (fault 13 176)) ∷ []))))))

-- bytes, and what they read as
pub record Read : Type 0 where
  pub in' : Field
  pub bytes : List ℕ
  pub gives : Result Cell Fault

abbrev reads : Field → List ℕ → Result Cell Fault → Read
reads f bs r = record { in' = f; bytes = bs; gives = r }

abbrev pub read : List Read
read =
    reads (field 4 6 number) (codes "      ") (Err (fault 11 4)) ∷
    (reads (field 4 6 number) (codes "0012 4") (Err (fault 11 8)) ∷
    (reads (field 12 15 text) (codes "PIX            ") (Ok (Some (txt (codes "PIX")))) ∷ []))

-- entries of book P and book Q
abbrev pub header_p : Entry
header_p = record { mark = 48; values = txt (codes "12345678") ∷ (num 2 ∷ (num 12345678000195 ∷ (txt [] ∷ (txt [] ∷ (txt [] ∷ (txt [] ∷ (num 20240229 ∷ (txt [] ∷ (txt [] ∷ []))))))))) }

abbrev pub charge_p : ℕ → List ℕ → ℕ → ℕ → List ℕ → Entry
charge_p type identifier value interest free = record {
  mark = 49;
  values =
      num 2 ∷ (num 12345678000195 ∷ (num 0 ∷ (txt (replicate 20 48) ∷ (txt [] ∷ (txt (codes "key@bread") ∷ (num type ∷ (num 1 ∷ (txt identifier ∷ (num 0 ∷ (num 0 ∷ (txt [] ∷
      (num value ∷ (num interest ∷ (num 0 ∷ (num 0 ∷ (txt [] ∷ (num 0 ∷ (num 0 ∷ (txt [] ∷ (txt free ∷ (txt [] ∷ (txt [] ∷ []))))))))))))))))))))));
}

abbrev pub trailer_p : Entry
trailer_p = record { mark = 57; values = [] }

abbrev pub letters : ℕ → List ℕ
letters n = replicate n 97

-- a charge after the header, and what a draft's add refuses it for
pub record Added : Type 0 where
  pub entry : Entry
  pub gives : Option Refusal

abbrev adding : Entry → Option Refusal → Added
adding e r = record { entry = e; gives = r }

abbrev pub added : List Added
added =
    -- type 1, a key of 9 bytes
    adding (charge_p 1 [] 0 0 (letters 68)) None ∷
    (adding (charge_p 1 [] 0 0 (letters 69)) (Some (refusal 15 2 410)) ∷
    -- interest equal to the value, and a cent more
    (adding (charge_p 2 (codes "id1") 125000 125000 []) None ∷
    (adding (charge_p 2 (codes "id1") 125000 125001 []) (Some (refusal 15 2 202)) ∷ [])))

-- a header, one row and a trailer, by their kinds
abbrev three : ℕ → List Entry
three m = record { mark = 48; values = [] } ∷ (record { mark = m; values = [] } ∷ [])

pub record EdgesHold : Type 0 where
  pub written_so : AllByRecursion (λ w. at_field w.in' (write_field w.in' w.content) ≡ w.gives) written
  pub read_so : AllByRecursion (λ r. at_field r.in' (read_field r.in' r.bytes) ≡ r.gives) read
  pub header_passes : entry_fault layout_p [] starts header_p ≡ None
  pub added_so : AllByRecursion (λ a. entry_fault layout_p (header_p ∷ []) adds a.entry ≡ a.gives) added
  pub closes_so : entry_fault layout_p (header_p ∷ (charge_p 2 (codes "id1") 125000 125000 [] ∷ [])) closes trailer_p ≡ None
  pub counted_P : reckon layout_p (three 49) trailer_p count ≡ 3
  pub counted_Q : reckon layout_q (three 49) trailer_p count ≡ 1
