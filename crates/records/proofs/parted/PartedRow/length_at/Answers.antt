use Rattle.std.proofs.Common.{length, ap, ◌∙◌}
use Rattle.records.specs.Conditions.{text_in}
use Rattle.records.proofs.Held.{held_at}
use Rattle.records.proofs.parted.PartedRow.length_at.Goals as goal

pub returns-clause-value : goal.returns-clause-value
returns-clause-value c = ap length c.text_in.ensures.bytes ∙ ap (λ x. length (text_in x)) (held_at c.args.self.now c.args.place c.requires _ c.field_at.ensures)
