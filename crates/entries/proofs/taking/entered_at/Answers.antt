use Rattle.std.proofs.Common.{◌∙◌, rules, tests}
use Rattle.std.specs.Option.{is_some}
use Rattle.std.proofs.lemmas.Iterator.{YieldsList-from_slice}
use Rattle.std.proofs.lemmas.Iterator.Consumers.{nth_from_yields_List, YieldsList-from_filter}
use Rattle.entries.specs.Asked.{asked_in}
use Rattle.entries.proofs.taking.entered_at.Goals as goal

pub returns : goal.returns
returns c =
    c.copied.ensures
    ∙ nth_from_yields_List c.nth.result _ c.args.place c.nth.ensures.ran (YieldsList-from_filter _ (λ f. is_some (asked_in f)) (YieldsList-from_slice c.args.fields.now cc) c.filter.ensures.closure (λ x b q k. search (rules, tests)))
