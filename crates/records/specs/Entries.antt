-- An entry as it is handed in: numbers, and places and lengths in a pool of bytes.
use Rattle.std.specs.Prelude.{ℕ, ◌+◌, Bool, true, ◌&&◌, List, map, length, take, drop, Some, None, Option, nat_le}
use Rattle.refusals.specs.declared.table.Refusal.{Refusal}
use Rattle.refusals.specs.Refusals.{refusal}
use Rattle.fields.specs.Field as s
use Rattle.layouts.specs.Layout.{Layout}
use Rattle.records.specs.declared.entries.Value.{Value}
use Rattle.records.specs.declared.entries.Value.TheVariants.{Number, Text}
use Rattle.records.specs.declared.entries.Entry as code
use Rattle.records.specs.Cells.{sorts_asked, wrong_value}
use Rattle.records.specs.Row.{Entry, origins_of}

pub record Handed : Type 0 where
  pub mark : ℕ
  pub values : List Value
  pub pool : List ℕ

abbrev pub handed_of : code.Entry → Handed
handed_of e = record { mark = e.mark; values = e.values.now; pool = e.pool.now }

abbrev pub value_of : List ℕ → Value → s.Value
value_of pool (Number n) = s.num n
value_of pool (Text p n) = s.txt (take n (drop p pool))

abbrev pub meant : Handed → Entry
meant h = record { mark = h.mark; values = map (value_of h.pool) h.values }

abbrev pub inside : List ℕ → Value → Bool
inside pool (Number n) = true
inside pool (Text p n) = nat_le (p + n) (length pool)

-- a value of the sort that is asked for, and not past the pool
abbrev pub suits : List ℕ → (s.Value → Bool) → Value → Bool
suits pool p v = p (value_of pool v) && inside pool v

abbrev pub handed31 : Layout → Handed → Option ℕ
handed31 l h = wrong_value (map (suits h.pool) (sorts_asked (origins_of l h.mark))) h.values

abbrev pub value_fault : Option ℕ → Option Refusal
value_fault None = None
value_fault (Some v) = Some (refusal 31 v 0)
