-- What is printed of a refusal: its number and its two values.
use Rattle.std.specs.Prelude.{ℕ, List, ◌++◌, codes}
use Rattle.std.specs.Fmt.{decimal}
use Rattle.refusals.specs.declared.table.Refusal.{Refusal}

abbrev pub refusal_text : Refusal → List ℕ
refusal_text r = codes "refusal " ++ (decimal r.number ++ (codes ", row " ++ (decimal r.first ++ (codes ", position " ++ decimal r.second))))
