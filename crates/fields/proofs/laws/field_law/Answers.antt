use Rattle.fields.proofs.Fields.{field_law, one_value, read_is_written}
use Rattle.fields.proofs.laws.field_law.Goals as goal

pub returns : goal.returns
returns c = record { law = field_law; one = one_value; back = read_is_written }
