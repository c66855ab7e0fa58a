-- What the entries before say of the next: its place, its owner, the sum and the count.
use Rattle.std.specs.Prelude.{ℕ, suc, ◌+◌, cond, List, [], ◌∷◌, ◌++◌, length, drop, Some, None, Option, ◌==◌, nat_lt}
use Rattle.refusals.specs.Faults.{ok_or}
use Rattle.fields.specs.Field.{Working, number_of_row, number_of_owner, total, count, any_of}
use Rattle.layouts.specs.Layout.{Layout, Group, Place}
use Rattle.records.specs.Worked.{reckoned_by}
use Rattle.records.specs.Conditions.{number_at}
use Rattle.records.specs.Row.{Entry, contents, origins_of, print_row}

abbrev pub last_of : Entry → List Entry → Entry
last_of e [] = e
last_of e (x ∷ xs) = last_of x xs

-- the place of the last entry of a kind, from 1; 0 if there is none
abbrev pub last_place : ℕ → List Entry → ℕ
last_place m [] = 0
last_place m (e ∷ es) = cond (nat_lt 0 (last_place m es)) (suc (last_place m es)) (cond (e.mark == m) 1 0)

abbrev pub owner_place : Option Group → List Entry → ℕ
owner_place None es = 0
owner_place (Some g) es = last_place g.owner es

abbrev pub no_entry : Entry
no_entry = record { mark = 0; values = [] }

-- the last entry of a kind
abbrev pub last_entry : ℕ → List Entry → Entry
last_entry m [] = no_entry
last_entry m (e ∷ es) = cond (nat_lt 0 (last_place m es)) (last_entry m es) (cond (e.mark == m) e no_entry)

abbrev pub owner_of : Group → List Entry → Entry
owner_of g es = last_entry g.owner es

-- how many entries are of the kinds ms
abbrev pub count_of : List ℕ → List Entry → ℕ
count_of ms [] = 0
count_of ms (e ∷ es) = cond (any_of ms e.mark) 1 0 + count_of ms es

-- the followers since the last owner
abbrev pub followers : Group → List Entry → ℕ
followers g es = count_of (g.follower ∷ []) (drop (last_place g.owner es) es)

-- the amount that an entry adds to the sum
abbrev pub amount_at : Layout → Option Place → Entry → ℕ
amount_at l None e = 0
amount_at l (Some p) e = cond (e.mark == p.kind) (number_at (contents l e) p.field) 0

abbrev pub sum_of : Layout → List Entry → ℕ
sum_of l [] = 0
sum_of l (e ∷ es) = amount_at l l.summed e + sum_of l es

-- what the worked fields of e hold, after the entries before
abbrev pub reckon : Layout → List Entry → Entry → Working → ℕ
reckon l before e number_of_row = length before + 1
reckon l before e number_of_owner = owner_place l.group before
reckon l before e total = sum_of l (before ++ e ∷ [])
reckon l before e count = count_of l.counted (before ++ e ∷ [])

-- the row of e after the entries before, and the rows of a list; an entry that does not print has the row []
abbrev pub row_of : Layout → List Entry → Entry → List ℕ
row_of l before e = ok_or [] (print_row l e (reckoned_by (reckon l before e) (origins_of l e.mark)))

abbrev pub rows_after : Layout → List Entry → List Entry → List (List ℕ)
rows_after l before [] = []
rows_after l before (e ∷ es) = row_of l before e ∷ rows_after l (before ++ e ∷ []) es

abbrev pub rows_of : Layout → List Entry → List (List ℕ)
rows_of l es = rows_after l [] es
