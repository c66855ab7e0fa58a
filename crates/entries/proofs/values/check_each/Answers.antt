use Rattle.std.proofs.Common.{length, sym, ◌∙◌, rules, tests, arith}
use Rattle.std.proofs.lemmas.Iterator.{YieldsList, YieldsList-from_slice, YieldsList-from_zip}
use Rattle.std.proofs.lemmas.Iterator.Consumers.{YieldsList-from_filter_map, YieldsList-from_enumerate, YieldsList-turn, YieldsList-end}
use Rattle.std.proofs.lemmas.List.{at_drop_all, length_push}
use Rattle.std.proofs.lemmas.Result.{err_from_is_err_and}
use Rattle.entries.specs.Asked.{asked_in}
use Rattle.entries.proofs.Asking.{placed, refused, refused_is, refused_next}
use Rattle.entries.proofs.values.check_each.Given as given
use Rattle.entries.proofs.values.check_each.Goals as goal
use Rattle.entries.proofs.values.check_each.Goals.{After-next}

gives : (c : After-next) → YieldsList given.iterator-loop-place.next_gives (λ p. (p.0, (p.1.0, p.1.1.now))) c.into_iter-place-iterator.result (placed c.args.fields.now c.args.values.now)
gives c = YieldsList-from_enumerate (YieldsList-from_zip (YieldsList-from_filter_map _ asked_in (YieldsList-from_slice c.args.fields.now cc) (cc) (λ x r q k. search (rules, tests))) (YieldsList-from_slice c.args.values.now cc)) cc

pub loop-place-init : goal.loop-place-init
loop-place-init c = refused_is c.args.pool.now c.args.fields.now c.args.values.now

pub loop-place-preserved : goal.loop-place-preserved
loop-place-preserved c =
    let t = YieldsList-turn (gives (goal.at.loop-place-preserved c).After-next) c.loop-place.yielded _ c.loop-place.yielded_by _ c.next.new.self _ c.in-Some.is c.next.ensures.steps in
    rw length_push (refused_next c.args.pool.now _ _ _ t _ c.in_ok-check_value.ensures ∙ c.loop-place.invariant)

pub returns-in_err-check_value : goal.returns-in_err-check_value
returns-in_err-check_value c =
    let p = err_from_is_err_and c.from_residual.result c.from_residual.ensures.1 in
    let t = YieldsList-turn (gives (goal.at.returns-in_err-check_value c).After-next) c.loop-place.yielded _ c.loop-place.yielded_by _ c.next.new.self _ c.in-Some.is c.next.ensures.steps in
    rw (p.1, p.2) (refused_next c.args.pool.now _ _ _ t _ c.in_err-check_value.ensures ∙ c.loop-place.invariant)

pub returns : goal.returns
returns c =
    let t = YieldsList-end (gives (goal.at.returns c).After-next) c.loop-place.yielded _ c.loop-place.yielded_by _ c.next.new.self c.in-None.is c.next.ensures.steps in
    sym (at_drop_all (refused c.args.pool.now) (placed c.args.fields.now c.args.values.now) (length c.loop-place.yielded) (omega (arith, t.1))) ∙ c.loop-place.invariant
