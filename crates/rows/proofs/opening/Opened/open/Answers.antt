use Rattle.std.proofs.Common.{refl}
use Rattle.rows.specs.Laws.{FormLaw}
use Rattle.rows.proofs.Joins.{form_law}
use Rattle.rows.proofs.opening.Opened.open.Given as given
use Rattle.rows.proofs.opening.Opened.open.Goals as goal

law : (g : given.Over) → FormLaw g.F.Form.size g.F.Form.encoded g.F.Form.decoded g.F.Form.good
law g =
    let laws = g.met.F.Form in
    form_law g.F.Form.size g.F.Form.encoded g.F.Form.decoded g.F.Form.good laws.sizes.0 g.F.Form.whole laws.fills laws.back laws.sound laws.forth

pub returns-in-Some : goal.returns-in-Some
returns-in-Some g c = record { opened = (c.in-Some.at, refl, c.in-Some.ensures); law = law g }

pub returns-in-None : goal.returns-in-None
returns-in-None g c =
    let formed = c.in-None.ensures in
    let back = (law g).written_back c.args.bytes.now formed in
    record { opened = (refl, formed, back.0, back.1); law = law g }
