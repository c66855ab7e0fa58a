use Rattle.std.proofs.Common.{◌≡◌, ℕ, ◌+◌, ◌≤◌, map, subst, add-zero, arith}
use Rattle.drafts.specs.Runs.{asked_in, Ran}
use Rattle.drafts.proofs.Exchanging.{exchanged}
use Rattle.drafts.proofs.Laying.{together}
use Rattle.drafts.proofs.Reading.{read_back}
use Rattle.drafts.proofs.RunSteps.{counted, counted_ok, counted_err, ran_at, ran_all}
use Rattle.drafts.proofs.running.run.Goals as goal
use Rattle.drafts.proofs.running.run.Goals.{then-is_ok, else-is_ok}

pub loop-request-preserved : goal.loop-request-preserved
loop-request-preserved g c =
    let l = g.B.Meant.meaning in
    let rows = g.C.Source.rows in
    let places = g.C.Carrier.places in
    let xs = c.args.requests.now in
    let i = c.loop-request.request-index in
    let r = c.apply.result in
    let a = c.loop-request.accepted in
    let b = c.if-is_ok.accepted in
    let counts : (b ≤ i + 1) × ((n : ℕ) → a + counted r n ≡ b + n) =
    elim c.if-is_ok.branch [
      | then-is_ok w ↦ (omega (arith, w.accepted-is, c.loop-request.invariant.within), λ n. counted_ok r a b n w.if-is_ok.ensures.value w.accepted-is)
      | else-is_ok w ↦ (omega (arith, w.accepted-is, c.loop-request.invariant.within), λ n. counted_err r a b n w.if-is_ok.ensures.value w.accepted-is)
    ] in
    record {
      within = counts.0;
      wrote = together _ _ _ c.loop-request.invariant.wrote c.apply.ensures.wrote;
      ran = λ n d t. subst (λ x. Ran l rows places c.args.draft.now (map asked_in xs) x d) (counts.1 n) (c.loop-request.invariant.ran (counted r n) d (ran_at l rows places c.loop-request.draft c.apply.new.draft d xs i _ r n c.loop-request-test.true c.apply.ensures.told t));
    }

pub returns-clause-ran : goal.returns-clause-ran
returns-clause-ran g c =
    let rows = g.C.Source.rows in
    let places = g.C.Carrier.places in
    let d = c.loop-request.draft in
    rw add-zero at (c.loop-request.invariant.ran 0 d (ran_all g.B.Meant.meaning rows places d c.args.requests.now c.loop-request.request-index c.loop-request-test.false))

pub returns-clause-read : goal.returns-clause-read
returns-clause-read g c = read_back {B = g.row.B.Denot} g.B.Meant.meaning g.B.Meant.lawful g.C.Source.rows g.C.Carrier.places g.C.Source.rows g.C.Source.whole

pub returns-clause-law : goal.returns-clause-law
returns-clause-law g c = exchanged g.row.B.Denot g.B.Meant.meaning g.B.Meant.lawful g.C.Source.rows g.C.Carrier.places g.C.Source.rows g.C.Carrier.places
