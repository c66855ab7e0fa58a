use Rattle.std.proofs.Common.{◌∙◌}
use Rattle.records.proofs.Held.{filled_at_lem}
use Rattle.records.proofs.parted.PartedRow.is_filled_at.Goals as goal

pub returns : goal.returns
returns c = c.is_filled_in.ensures ∙ filled_at_lem c.args.self.now c.args.place c.requires _ c.field_at.ensures
