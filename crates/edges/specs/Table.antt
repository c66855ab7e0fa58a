-- The edges of a row, as one table over the definitions that the contracts cite.
use Rattle.std.specs.Prelude.{◌≡◌, ℕ, ◌-◌, ◌^◌, List, [], ◌∷◌, length, take, drop, replicate, Some, None, Ok, Err, codes, Option, Result}
use Rattle.std.specs.List.{AllByRecursion}
use Rattle.refusals.specs.declared.table.Refusal.{Refusal}
use Rattle.refusals.specs.Refusals.{refusal}
use Rattle.refusals.specs.Faults.{Fault, fault}
use Rattle.fields.specs.Field.{Field, constant, text, number, date, amount, num, txt, Cell, read_field, write_field}
use Rattle.fields.specs.InRow.{at_field}
use Rattle.layouts.specs.Layout.{Layout}
use Rattle.outgoing_receipts.specs.BookP.{layout_p}
use Rattle.returned_receipts.specs.BookQ.{layout_q}
use Rattle.records.specs.Row.{Entry}
use Rattle.legality.specs.Before.{row_of, rows_of}
use Rattle.legality.specs.Checks.{Call, starts, adds, entry_fault}
use Rattle.legality.specs.File.{checked}
use Rattle.edges.specs.Edges.{field, header_p, charge_p, trailer_p, letters}

-- what is looked at, and what it gives
pub data Edge : Type 0 where
  -- a content written into a field: its bytes, or the refusal's number and position
  writes : Field → Cell → Result (List ℕ) Fault → Edge
  -- bytes read in a field
  reads : Field → List ℕ → Result Cell Fault → Edge
  -- an entry handed to a call after the entries before: what refuses it
  calls : Layout → List Entry → Call → Entry → Option Refusal → Edge
  -- the bytes of an entry's row from a position on
  shows : Layout → List Entry → Entry → ℕ → List ℕ → Edge
  -- the rows of a list: what check answers, rows and sum
  checks : Layout → List Entry → ℕ → ℕ → Edge

abbrev pub Holds : Edge → Type 0
Holds (writes f c r) = at_field f (write_field f c) ≡ r
Holds (reads f bs r) = at_field f (read_field f bs) ≡ r
Holds (calls l before c e r) = entry_fault l before c e ≡ r
Holds (shows l before e p bs) = take (length bs) (drop (p - 1) (row_of l before e)) ≡ bs
Holds (checks l es n sum) = checked l (rows_of l es) ≡ Ok (record { rows = n; sum = sum })

-- of type 1, with a key of 9 bytes and a free text of n
abbrev static : ℕ → Entry
static n = charge_p 1 [] 0 0 (letters n)

-- of type 2, over 1,250.00, with that interest
abbrev dynamic : ℕ → Entry
dynamic interest = charge_p 2 (codes "id1") 125000 interest []

-- and of book Q
abbrev header_q : Entry
header_q = record { mark = 48; values = txt (codes "12345678") ∷ (num 2 ∷ (num 12345678000195 ∷ (num 0 ∷ (txt (replicate 20 48) ∷ (txt [] ∷ (txt [] ∷ (num 20240229 ∷ (txt [] ∷ (txt [] ∷ (txt [] ∷ [])))))))))) }

abbrev paid_q : Entry
paid_q = record { mark = 49; values = txt (codes "12345678") ∷ (num 2 ∷ (num 12345678000195 ∷ (txt (codes "0001") ∷ (txt (codes "123456") ∷ (txt (codes "CACC") ∷ (txt (codes "key@bread") ∷ (num 2 ∷ (num 6 ∷ (num 20240229 ∷ (txt (codes "id1") ∷ (num 0 ∷ (num 0 ∷ (num 0 ∷ (num 0 ∷ (num 0 ∷ (num 0 ∷ (num 0 ∷ (num 125000 ∷ (num 0 ∷ (num 0 ∷ (num 0 ∷ (txt [] ∷ (num 0 ∷ (num 0 ∷ (txt [] ∷ (txt [] ∷ (txt [] ∷ (txt [] ∷ [])))))))))))))))))))))))))))) }

abbrev trailer_q : Entry
trailer_q = record { mark = 57; values = txt (codes "12345678") ∷ (txt [] ∷ []) }

abbrev pub edges : List Edge
edges =
    writes (field 12 15 text) (Some (txt (codes "PIX"))) (Ok (codes "PIX            ")) ∷
    (writes (field 12 15 (constant (codes "PIX"))) None (Ok (codes "PIX            ")) ∷
    (reads (field 12 15 text) (codes "PIX            ") (Ok (Some (txt (codes "PIX")))) ∷
    (writes (field 185 17 amount) (Some (num (10 ^ 17 - 1))) (Ok (replicate 17 57)) ∷
    (writes (field 185 17 amount) (Some (num (10 ^ 17))) (Err (fault 13 185)) ∷
    (writes (field 176 8 date) (Some (num 20240229)) (Ok (codes "20240229")) ∷
    (writes (field 176 8 date) (Some (num 20230229)) (Err (fault 13 176)) ∷
    (writes (field 176 8 date) (Some (num 21000229)) (Err (fault 13 176)) ∷
    (reads (field 4 6 number) (codes "      ") (Err (fault 11 4)) ∷
    (reads (field 4 6 number) (codes "0012 4") (Err (fault 11 8)) ∷
    (calls layout_p [] starts header_p None ∷
    (calls layout_p (header_p ∷ []) adds (static 68) None ∷
    (calls layout_p (header_p ∷ []) adds (static 69) (Some (refusal 15 2 410)) ∷
    (calls layout_p (header_p ∷ []) adds (dynamic 125000) None ∷
    (calls layout_p (header_p ∷ []) adds (dynamic 125001) (Some (refusal 15 2 202)) ∷
    -- a header, one row and a trailer
    (shows layout_p (header_p ∷ (dynamic 0 ∷ [])) trailer_p 730 (codes "000000000000003") ∷
    (shows layout_p (header_p ∷ (dynamic 0 ∷ [])) trailer_p 713 (codes "00000000000125000") ∷
    (checks layout_p (header_p ∷ (dynamic 0 ∷ (trailer_p ∷ []))) 3 125000 ∷
    (shows layout_q (header_q ∷ (paid_q ∷ [])) trailer_q 730 (codes "000000000000001") ∷
    (checks layout_q (header_q ∷ (paid_q ∷ (trailer_q ∷ []))) 3 125000 ∷ [])))))))))))))))))))

abbrev pub TableHolds : Type 0
TableHolds = AllByRecursion Holds edges
