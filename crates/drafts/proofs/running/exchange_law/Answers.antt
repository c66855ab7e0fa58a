use Rattle.drafts.proofs.Exchanging.{exchanged}
use Rattle.drafts.proofs.running.exchange_law.Goals as goal

pub returns : goal.returns
returns g c = exchanged g.row.B.Denot g.B.Meant.meaning g.B.Meant.lawful g.C.Source.rows g.C.Carrier.places g.D.Source.rows g.D.Carrier.places
