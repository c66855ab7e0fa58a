use Rattle.std.proofs.Common.{refl}
use Rattle.edges.proofs.edges_hold.Goals as goal

pub returns : goal.returns
returns c = record {
  written_so = (refl, (refl, (refl, (refl, (refl, (refl, (refl, tt)))))));
  read_so = (refl, (refl, (refl, tt)));
  header_passes = refl;
  added_so = (refl, (refl, (refl, (refl, tt))));
  closes_so = refl;
  counted_P = refl;
  counted_Q = refl;
}
