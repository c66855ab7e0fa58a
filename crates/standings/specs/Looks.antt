-- What is looked at in 23, 24 and 25.
use Rattle.std.specs.Prelude.{ℕ, Bool}
use Rattle.fields.specs.Field.{Working}
use Rattle.standings.specs.declared.worked.Look.{Look}
use Rattle.standings.specs.declared.worked.Look.TheVariants.{Numbers, Totals, Counts}
use Rattle.legality.specs.Checks.{is_number, is_total, is_count}

abbrev pub number_for : Look → ℕ
number_for Numbers = 23
number_for Totals = 24
number_for Counts = 25

abbrev pub looks_at : Look → Working → Bool
looks_at Numbers = is_number
looks_at Totals = is_total
looks_at Counts = is_count
