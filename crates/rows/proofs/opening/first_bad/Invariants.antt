use Rattle.std.proofs.Common.{◌≡◌, ◌%◌}
use Rattle.rows.specs.Lines.{GoodTo}
use Rattle.rows.proofs.opening.first_bad.Given as goal

abbrev pub invariant-loop-i : goal.invariant-loop-i
invariant-loop-i g l = GoodTo g.F.Form.good g.F.Form.size l.i l.bytes × (l.place ≡ l.i % g.F.Form.size)
