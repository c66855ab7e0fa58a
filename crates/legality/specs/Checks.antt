-- The checks of a row and of an entry after the entries before, in the order of the table.
use Rattle.std.specs.Prelude.{ℕ, ◌+◌, ◌^◌, Bool, true, false, cond, not, ◌&&◌, List, [], ◌∷◌, ◌++◌, length, Some, None, Option, ◌==◌, nat_le, nat_lt}
use Rattle.refusals.specs.declared.table.Refusal.{Refusal}
use Rattle.refusals.specs.Faults.{Fault, fault, in_row, unless, first_some, fault_in}
use Rattle.fields.specs.Field.{Working, number_of_row, number_of_owner, total, count, any_of, same}
use Rattle.layouts.specs.Layout.{Layout, Group, Place, field_at, kind_of}
use Rattle.records.specs.Cells.{Origin, of_book, entered, reckoned}
use Rattle.records.specs.Conditions.{cell_at, number_at, text_in}
use Rattle.records.specs.Row.{Entry, contents, fields_of, origins_of, mark10, values31, fields11, conditions15, mark_of, cells_of, entry_of, digits_of}
use Rattle.records.specs.Entries.{value_fault}
use Rattle.legality.specs.Before.{last_of, owner_of, followers, sum_of, reckon}

abbrev pub row27 : ℕ → Option Fault
row27 n = unless (nat_le n 65535) (fault 27 0)

-- a header begins; after that a kind stands where the book lets it follow
abbrev pub may_stand : Layout → List Entry → ℕ → Bool
may_stand l [] m = m == l.header
may_stand l (e ∷ es) m = any_of (kind_of l m).after (last_of e es).mark

abbrev pub order20 : Layout → List Entry → ℕ → Option Fault
order20 l before m = unless (may_stand l before m) (fault 20 1)

abbrev pub full : Option Group → List Entry → ℕ → Bool
full None before m = false
full (Some g) before m = m == g.follower && nat_le g.largest (followers g before)

abbrev pub group21 : Layout → List Entry → ℕ → Option Fault
group21 l before m = unless (not (full l.group before m)) (fault 21 1)

-- what binds a follower to its owner: the owner's type is 2, and the follower's identifier is the owner's
abbrev pub bound : Layout → Group → ℕ → List ℕ → List ℕ → Option Fault
bound l g type identifier copy =
    first_some (unless (type == 2) (fault 22 1) ∷ (unless (same identifier copy) (fault 22 (field_at (fields_of l g.follower) g.follower_identifier).start) ∷ []))

abbrev pub tied : Layout → Option Group → List Entry → Entry → Option Fault
tied l None before e = None
tied l (Some g) before e =
    let owner = contents l (owner_of g before) in
    cond (e.mark == g.follower)
    (bound l g (number_at owner g.owner_type) (text_in (cell_at owner g.owner_identifier)) (text_in (cell_at (contents l e) g.follower_identifier)))
    None

abbrev pub owner22 : Layout → List Entry → Entry → Option Fault
owner22 l before e = tied l l.group before e

abbrev pub summed_start : Layout → Option Place → ℕ
summed_start l None = 0
summed_start l (Some p) = (field_at (fields_of l p.kind) p.field).start

abbrev pub sum26 : Layout → List Entry → Entry → Option Fault
sum26 l before e = unless (nat_lt (sum_of l (before ++ e ∷ [])) (10 ^ 17)) (fault 26 (summed_start l l.summed))

-- whether a worked field is looked at and holds another number than it must
abbrev pub is_wrong : (Working → Bool) → (Working → ℕ) → Origin → ℕ → Bool
is_wrong looked r of_book n = false
is_wrong looked r (entered p) n = false
is_wrong looked r (reckoned s k) n = looked k && not (n == r k)

-- 23, 24, 25: the first worked field among those looked at whose digits are not what they must be
abbrev pub first_wrong : ℕ → (Working → Bool) → (Working → ℕ) → List Origin → List ℕ → Option Fault
first_wrong number looked r [] ws = None
first_wrong number looked r (of_book ∷ os) ws = first_wrong number looked r os ws
first_wrong number looked r (entered p ∷ os) ws = first_wrong number looked r os ws
first_wrong number looked r (reckoned s k ∷ os) [] = None
first_wrong number looked r (reckoned s k ∷ os) (n ∷ ws) = cond (looked k && not (n == r k)) (Some (fault number s)) (first_wrong number looked r os ws)

abbrev pub is_number : Working → Bool
is_number number_of_row = true
is_number number_of_owner = true
is_number total = false
is_number count = false

abbrev pub is_total : Working → Bool
is_total number_of_row = false
is_total number_of_owner = false
is_total total = true
is_total count = false

abbrev pub is_count : Working → Bool
is_count number_of_row = false
is_count number_of_owner = false
is_count total = false
is_count count = true

abbrev pub wrong : ℕ → (Working → Bool) → Layout → List Entry → List ℕ → Option Fault
wrong number looked l before row = first_wrong number looked (reckon l before (entry_of l row)) (origins_of l (mark_of row)) (digits_of l row)

-- until the row is read, and then
abbrev pub read_checks : Layout → List Entry → List ℕ → List (Option Fault)
read_checks l before row =
    let m = mark_of row in
    row27 (length before + 1) ∷ (mark10 l m ∷ (order20 l before m ∷ (group21 l before m ∷ (fault_in (cells_of l row) ∷ (conditions15 l (entry_of l row) ∷ [])))))

abbrev pub work_checks : Layout → List Entry → List ℕ → List (Option Fault)
work_checks l before row =
    let e = entry_of l row in
    owner22 l before e ∷ (wrong 23 is_number l before row ∷ (sum26 l before e ∷ (wrong 24 is_total l before row ∷ (wrong 25 is_count l before row ∷ []))))

abbrev pub row_checks : Layout → List Entry → List ℕ → List (Option Fault)
row_checks l before row = read_checks l before row ++ work_checks l before row

abbrev pub row_fault : Layout → List Entry → List ℕ → Option Refusal
row_fault l before row = in_row (length before + 1) (first_some (row_checks l before row))

pub data Call : Type 0 where
  starts : Call
  adds : Call
  closes : Call

-- start takes the header kind, close the trailer kind, and add every other
abbrev pub asks : Layout → Call → ℕ → Bool
asks l starts m = m == l.header
asks l adds m = not (m == l.header) && not (m == l.trailer)
asks l closes m = m == l.trailer

-- before 31, and after it
abbrev pub first_checks : Layout → List Entry → ℕ → List (Option Fault)
first_checks l before m = row27 (length before + 1) ∷ (mark10 l m ∷ [])

abbrev pub entry_checks : Layout → List Entry → Call → Entry → List (Option Fault)
entry_checks l before c e =
    let m = e.mark in
    unless (asks l c m) (fault 20 1) ∷ (order20 l before m ∷ (group21 l before m ∷ (fields11 l e ∷ (conditions15 l e ∷ (owner22 l before e ∷ (sum26 l before e ∷ []))))))

-- the checks of an entry whose values gave v for 31
abbrev pub checks_with : Option ℕ → Layout → List Entry → Call → Entry → Option Refusal
checks_with v l before c e =
    let n = length before + 1 in
    first_some (in_row n (first_some (first_checks l before e.mark)) ∷ (value_fault v ∷ (in_row n (first_some (entry_checks l before c e)) ∷ [])))

abbrev pub entry_fault : Layout → List Entry → Call → Entry → Option Refusal
entry_fault l before c e = checks_with (values31 l e) l before c e
