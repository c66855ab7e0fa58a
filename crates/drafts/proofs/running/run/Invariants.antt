use Rattle.std.proofs.Common.{ℕ, ◌+◌, ◌≤◌, map, drop}
use Rattle.drafts.specs.declared.drafts.Draft.{Draft}
use Rattle.drafts.specs.Runs.{asked_in, Ran}
use Rattle.drafts.specs.Standing.{Wrote}
use Rattle.drafts.proofs.running.run.Given as goal

-- what the calls that are left come to, the whole run comes to
abbrev pub invariant-loop-request : goal.invariant-loop-request
invariant-loop-request g l =
    record {
      within : l.accepted ≤ l.request-index;
      wrote : Wrote g.C.Source.rows g.C.Carrier.memory g.C.Carrier.lenders g.C.Carrier.size g.C.Carrier.line l.initial.draft l.draft;
      ran : (n : ℕ) (d : Draft g.row.B.Denot g.row.C.Denot) → Ran g.B.Meant.meaning g.C.Source.rows g.C.Carrier.places l.draft (map asked_in (drop l.request-index l.requests)) n d → Ran g.B.Meant.meaning g.C.Source.rows g.C.Carrier.places l.initial.draft (map asked_in l.requests) (l.accepted + n) d;
    }
