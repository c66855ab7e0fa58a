use Rattle.legality.specs.Checks.{is_number}
use Rattle.files.proofs.Stages.{wrong_held}
use Rattle.files.proofs.checking.check_numbers.Goals as goal

pub returns : goal.returns
returns g c es s is = wrong_held g.B.Meant.meaning g.B.Meant.lawful es c.args.next is _ c.fields.ensures 23 is_number c.worked-worked.result (c.worked-worked.ensures.numbers es _ s is.number is.marked) _ c.check_worked.ensures
