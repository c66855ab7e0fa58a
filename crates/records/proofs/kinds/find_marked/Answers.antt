use Rattle.records.proofs.Marks.{marked}
use Rattle.records.proofs.kinds.find_marked.Goals as goal

pub returns-clause-found : goal.returns-clause-found
returns-clause-found g c = rw (c.ok_or.ensures.value, c.kind_of.ensures) (marked g.B.Meant.meaning c.args.mark _)
