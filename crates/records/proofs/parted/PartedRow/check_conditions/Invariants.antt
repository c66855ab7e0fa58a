use Rattle.std.proofs.Common.{◌≡◌, drop}
use Rattle.records.specs.Conditions.{broken}
use Rattle.records.specs.Parted.{fields_in, held}
use Rattle.records.proofs.parted.PartedRow.check_conditions.Given as goal

abbrev pub invariant-loop-condition : goal.invariant-loop-condition
invariant-loop-condition l = broken (fields_in l.self) (held l.self) (drop l.condition-index l.conditions) ≡ broken (fields_in l.self) (held l.self) l.conditions
