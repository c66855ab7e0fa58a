use Rattle.drafts.proofs.Reading.{read_back}
use Rattle.drafts.proofs.running.reading_law.Goals as goal

pub returns : goal.returns
returns g c = read_back {B = g.row.B.Denot} g.B.Meant.meaning g.B.Meant.lawful g.C.Source.rows g.C.Carrier.places g.S.Source.rows g.S.Source.whole
