-- The numbers that a draft works out.
use Rattle.std.specs.Prelude.{ℕ, List, [], ◌∷◌}
use Rattle.fields.specs.Field.{Working, number_of_row, number_of_owner, total, count}
use Rattle.records.specs.declared.entries.Worked.{Worked}
use Rattle.records.specs.Cells.{Origin, of_book, entered, reckoned}

abbrev pub worked_of : Worked → Working → ℕ
worked_of w number_of_row = w.row_number
worked_of w number_of_owner = w.owner_number
worked_of w total = w.total
worked_of w count = w.count

-- those that the fields of these origins ask for, in order
abbrev pub reckoned_by : (Working → ℕ) → List Origin → List ℕ
reckoned_by r [] = []
reckoned_by r (of_book ∷ os) = reckoned_by r os
reckoned_by r (entered p ∷ os) = reckoned_by r os
reckoned_by r (reckoned s k ∷ os) = r k ∷ reckoned_by r os
