use Rattle.std.proofs.Common.{◌≡◌, map, length, drop}
use Rattle.entries.specs.Asked.{asked_by}
use Rattle.records.specs.Cells.{first_other}
use Rattle.records.specs.Entries.{suits, value_fault}
use Rattle.entries.proofs.Asking.{placed, refused}
use Rattle.entries.proofs.values.check_each.Given as goal

abbrev pub invariant-loop-place : goal.invariant-loop-place
invariant-loop-place l = refused l.pool (drop (length l.yielded) (placed l.fields l.values)) ≡ value_fault (first_other 1 (map (suits l.pool) (asked_by l.fields)) l.values)
