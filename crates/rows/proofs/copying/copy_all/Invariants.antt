use Rattle.std.proofs.Common.{◌≡◌, ◌-◌, ◌≤◌, ◌++◌, length, take}
use Rattle.rows.specs.Rows.{put_all}
use Rattle.rows.proofs.copying.copy_all.Given as goal

abbrev pub invariant-loop-n : goal.invariant-loop-n
invariant-loop-n g l = record {
  rows : g.C.Source.rows l.to ≡ g.C.Source.rows l.initial.to ++ take (l.n - 1) (g.S.Source.rows l.from);
  memory : g.C.Carrier.memory l.to ≡ put_all g.C.Carrier.size g.C.Carrier.line (g.C.Carrier.memory l.initial.to) (length (g.C.Source.rows l.initial.to)) (take (l.n - 1) (g.S.Source.rows l.from));
  places : g.C.Carrier.places l.to ≡ g.C.Carrier.places l.initial.to;
  lenders : g.C.Carrier.lenders l.to ≡ g.C.Carrier.lenders l.initial.to;
  free : l.n - 1 ≤ g.C.Carrier.places l.initial.to - length (g.C.Source.rows l.initial.to);
}
