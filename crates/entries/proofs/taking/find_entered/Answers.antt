use Rattle.std.proofs.Common.{◌≡◌, rules}
use Rattle.std.specs.List.{slice_get, filter}
use Rattle.std.specs.Option.{is_some, option_and_then}
use Rattle.entries.specs.Asked.{asked_in}
use Rattle.entries.proofs.Takes.{found_entered}
use Rattle.entries.proofs.taking.find_entered.Goals as goal

pub returns : goal.returns
returns c =
    let e : c.and_then.result ≡ option_and_then (λ i. slice_get (filter (λ f. is_some (asked_in f)) c.args.fields.now) i) c.checked_sub.result = search rules in
    rw (c.ok_or.ensures.value, e) (found_entered c.args.fields.now c.args.number c.checked_sub.result c.checked_sub.ensures)
