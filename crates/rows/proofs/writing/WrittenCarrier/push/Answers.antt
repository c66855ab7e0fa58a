use Rattle.std.proofs.Common.{◌≡◌, ◌*◌, ◌/◌, ◌<◌, min, length, sym, refl, ap, ◌∙◌, arith}
use Rattle.rows.specs.Lines.{written}
use Rattle.rows.specs.Whole.{length-rows_of}
use Rattle.rows.proofs.Cuts.{places_kept, push_rows}
use Rattle.rows.proofs.writing.WrittenCarrier.push.Goals as goal

pub returns : goal.returns
returns g c =
    let w = c.args.self.now in
    let r = c.args.row.now in
    let size = g.F.Form.size in
    let laws = g.met.F.Form in
    let free : w.held < length w.memory.now / size = omega (arith, c.places-places.ensures) in
    let fills = laws.fills r c.told-row in
    let n = length-rows_of g.F.Form.decoded size (min w.held (length w.memory.now / size)) w.memory.now in
    let below : min w.held (length w.memory.now / size) ≡ w.held = omega arith in
    record {
      pushed = (omega (arith, n), push_rows g.F.Form.decoded size w.held w.memory.now c.put_line.new.memory _ r c.put_line.ensures free fills (laws.back r c.told-row c.fits-row));
      kept = tt;
      memory = c.put_line.ensures ∙ ap (λ k. written w.memory.now (k * size) size (g.F.Form.encoded r)) (sym (n ∙ below));
      places = places_kept size w.held w.memory.now c.put_line.new.memory _ c.put_line.ensures free fills;
      lenders = refl;
    }
