use Rattle.records.proofs.Law.{rows_keep_the_law, one_entry, equal_rows}
use Rattle.records.proofs.laws.row_law.Goals as goal

pub returns : goal.returns
returns c = record { law = rows_keep_the_law; one = one_entry; equal = equal_rows }
