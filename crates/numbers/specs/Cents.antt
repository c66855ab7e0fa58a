-- What is printed of an amount: units, a point and two digits.
use Rattle.std.specs.Prelude.{ℕ, ◌/◌, ◌%◌, List, ◌++◌, codes}
use Rattle.std.specs.Fmt.{decimal}
use Rattle.numbers.specs.Digits.{printed}

abbrev pub cents_text : ℕ → List ℕ
cents_text n = decimal (n / 100) ++ (codes "." ++ printed 2 (n % 100))
