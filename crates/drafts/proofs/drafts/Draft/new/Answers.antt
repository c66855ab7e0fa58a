use Rattle.drafts.proofs.drafts.Draft.new.Goals as goal

pub returns-clause-stands : goal.returns-clause-stands
returns-clause-stands g c = c.new.ensures g.B.Meant.meaning
