use Rattle.std.proofs.Common.{ap, ◌∙◌}
use Rattle.records.specs.Conditions.{number_in}
use Rattle.records.proofs.Held.{held_at}
use Rattle.records.proofs.parted.PartedRow.number_at.Goals as goal

pub returns : goal.returns
returns c = c.number_in.ensures ∙ ap number_in (held_at c.args.self.now c.args.place c.requires _ c.field_at.ensures)
