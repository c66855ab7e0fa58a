use Rattle.std.proofs.Common.{◌≡◌, rules}
use Rattle.std.proofs.lemmas.Bool.Decides.{Decides-at}
use Rattle.numbers.specs.Dates.{is_date}
use Rattle.numbers.proofs.Calendar.{date_law}
use Rattle.numbers.proofs.dates.is_date.Goals as goal

pub returns-else-number-eq0-clause-calendar : goal.returns-else-number-eq0-clause-calendar
returns-else-number-eq0-clause-calendar c =
    let e : c.is_on_calendar.result ≡ is_date c.args.number = search rules in
    Decides-at c.is_on_calendar.result (is_date c.args.number) e (date_law c.args.number)
