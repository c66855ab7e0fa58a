use Rattle.std.proofs.Common.{◌≡◌, ℕ, ◌+◌, ◌-◌, length, take, ap, ◌∙◌, arith}
use Rattle.std.proofs.lemmas.Grind.{common_steps}
use Rattle.std.proofs.lemmas.List.{length-append}
use Rattle.rows.specs.Rows.{put_all}
use Rattle.rows.proofs.Steps.{held_now, put_more}
use Rattle.rows.proofs.copying.copy_all.Given as given
use Rattle.rows.proofs.copying.copy_all.Goals as goal
use Rattle.rows.proofs.copying.copy_all.Goals.{In_ok-push}

held : (g : given.Over) (c : In_ok-push g) → length (g.C.Source.rows c.loop-n.to) ≡ length (g.C.Source.rows c.args.to.now) + (c.loop-n.n - 1)
held g c = held_now _ _ (g.S.Source.rows c.args.from.now) (c.loop-n.n - 1) (omega (arith, c.in_ok-copy_row.ensures.1)) c.loop-n.invariant.rows

-- what the memory holds behind an accepted row; `upto` is the row's number
memory_more : (g : given.Over) (c : In_ok-push g) (upto : ℕ) → upto ≡ c.loop-n.n → g.C.Carrier.memory c.push.new.self ≡ put_all g.C.Carrier.size g.C.Carrier.line (g.C.Carrier.memory c.args.to.now) (length (g.C.Source.rows c.args.to.now)) (take upto (g.S.Source.rows c.args.from.now))
memory_more g c upto is =
    let row = c.in_ok-copy_row.ensures in
    put_more g.C.Carrier.size g.C.Carrier.line _ _ _ _ _ c.loop-n.n upto _ _ _ is row.0 row.1 (held g c) c.loop-n.invariant.memory row.2 c.in_ok-push.ensures.memory

pub loop-n-preserved : goal.loop-n-preserved
loop-n-preserved g c =
    let kept = c.loop-n.invariant in
    let here = (goal.at.loop-n-preserved g c).In_ok-push in
    let pushed = c.in_ok-push.ensures in
    record {
      rows = grind (arith, common_steps);
      memory = memory_more g here (c.loop-n.n + 1 - 1) (omega arith);
      places = pushed.places ∙ kept.places;
      lenders = pushed.lenders ∙ kept.lenders;
      free = omega (arith, held g here, pushed.pushed.0);
    }

pub returns-in_ok-push-clause-memory : goal.returns-in_ok-push-clause-memory
returns-in_ok-push-clause-memory g c =
    let here = (goal.at.returns-in_ok-push-clause-memory g c).In_ok-push in
    let mid = g.C.Source.rows c.loop-n.to in
    let after = g.C.Source.rows c.push.new.self in
    let one : length after ≡ length mid + 1 = simp length-append at (ap length c.in_ok-push.ensures.pushed.1) in
    memory_more g here (length after - length (g.C.Source.rows c.args.to.now)) (omega (arith, held g here))
