-- How many rows are read, and which.
use Rattle.rows.specs.Whole.{length-rows_of, get_or-rows_of}

pub ruleset counts = (length-rows_of, get_or-rows_of)
