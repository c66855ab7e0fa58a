-- What a book tells.
use Rattle.std.specs.Prelude.{ℕ, false, cond, List, [], ◌∷◌, Some, None, Option, ◌==◌, slice_index_or}
use Rattle.fields.specs.Field.{Field, blank}
use Rattle.layouts.specs.declared.conditions.Condition.{Condition}

-- A kind of row. Kinds go by their marks, fields by their places among the kind's fields, from 0.
pub record Kind : Type 0 where
  pub mark : ℕ
  pub fields : List Field
  pub conditions : List Condition
  -- the kinds that it may follow
  pub after : List ℕ

-- the kind that owns followers, their kind, the fields that tie them, and how many may follow one owner
pub record Group : Type 0 where
  pub owner : ℕ
  pub follower : ℕ
  pub owner_type : ℕ
  pub owner_identifier : ℕ
  pub follower_identifier : ℕ
  pub largest : ℕ

-- a field of a kind
pub record Place : Type 0 where
  pub kind : ℕ
  pub field : ℕ

-- A book's meaning.
pub record Layout : Type 0 where
  pub kinds : List Kind
  pub header : ℕ
  pub trailer : ℕ
  pub group : Option Group
  -- the amount that is summed
  pub summed : Option Place
  -- the kinds that the trailer counts
  pub counted : List ℕ

-- what stands where no field or kind is
abbrev pub no_field : Field
no_field = record { start = 0; width = 0; sort = blank; required = false }

abbrev pub no_kind : Kind
no_kind = record { mark = 0; fields = []; conditions = []; after = [] }

abbrev pub field_at : List Field → ℕ → Field
field_at fs i = slice_index_or fs i no_field

-- the kind with a mark
abbrev pub found : ℕ → List Kind → Option Kind
found m [] = None
found m (k ∷ ks) = cond (m == k.mark) (Some k) (found m ks)

abbrev pub or_none : Option Kind → Kind
or_none None = no_kind
or_none (Some k) = k

abbrev pub kind_of : Layout → ℕ → Kind
kind_of l m = or_none (found m l.kinds)
