use Rattle.std.proofs.Common.{◌∙◌, rules, tests}
use Rattle.std.proofs.lemmas.Iterator.{YieldsList-from_slice}
use Rattle.std.proofs.lemmas.Iterator.Consumers.{count_from_yields_List, YieldsList-from_filter_map}
use Rattle.entries.specs.Asked.{asked_in}
use Rattle.entries.proofs.Asking.{asks_count}
use Rattle.entries.proofs.origins.count_entered.Goals as goal

pub returns : goal.returns
returns c =
    count_from_yields_List c.filter_map.result c.count.result c.count.ensures.ran (YieldsList-from_filter_map _ asked_in (YieldsList-from_slice c.args.fields.now cc) c.filter_map.ensures.closure (λ x r q k. search (rules, tests)))
    ∙ asks_count c.args.fields.now
