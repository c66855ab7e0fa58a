-- Words for tables.
use Rattle.std.specs.Prelude.{ℕ, true, false, List}
use Rattle.fields.specs.Field.{Field, Sort}
use Rattle.layouts.specs.Layout.{Kind}
use Rattle.layouts.specs.declared.conditions.Condition.{Condition}
use Rattle.layouts.specs.declared.conditions.Premise.{Premise}
use Rattle.layouts.specs.declared.conditions.Claim.{Claim}

-- a required field, and an optional one: start, width, sort
abbrev pub req : ℕ → ℕ → Sort → Field
req s w t = record { start = s; width = w; sort = t; required = true }

abbrev pub opt : ℕ → ℕ → Sort → Field
opt s w t = record { start = s; width = w; sort = t; required = false }

abbrev pub iff : Premise → Claim → Condition
iff p c = record { premise = p; claim = c }

-- a kind: its mark, the marks that it may follow, its fields and conditions
abbrev pub kind : ℕ → List ℕ → List Field → List Condition → Kind
kind m after fs cs = record { mark = m; fields = fs; conditions = cs; after = after }
