-- The line that is printed for a verdict.
use Rattle.std.specs.Prelude.{ℕ, List, [], ◌∷◌, ◌++◌, Ok, Err, codes, Result}
use Rattle.numbers.specs.Digits.{printed}
use Rattle.legality.specs.File.{Accepted}
use Rattle.verdicts.specs.Input.{Named}

-- as OK rows=00003 total=00000000000125000
abbrev pub ok_line : ℕ → ℕ → List ℕ
ok_line rows total = codes "OK rows=" ++ (printed 5 rows ++ (codes " total=" ++ (printed 17 total ++ 10 ∷ [])))

-- as NO n=28 row=00000 pos=000
abbrev pub no_line : ℕ → ℕ → ℕ → List ℕ
no_line number row position =
    codes "NO n=" ++ (printed 2 number ++ (codes " row=" ++ (printed 5 row ++ (codes " pos=" ++ (printed 3 position ++ 10 ∷ [])))))

abbrev pub line_of : Result Accepted Named → List ℕ
line_of (Ok a) = ok_line a.rows a.sum
line_of (Err n) = no_line n.number n.row n.position
