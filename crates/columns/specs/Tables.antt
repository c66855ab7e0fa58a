-- The table of a book: for each kind in order a heading, and a line for each field in order. The names are the bank's, and
-- not told here: there is one for each kind and one for each field.
use Rattle.std.specs.Prelude.{◌≡◌, ℕ, List, [], ◌∷◌, ◌++◌, map, length}
use Rattle.fields.specs.Field.{Field}
use Rattle.layouts.specs.Layout.{Layout, kind_of}
use Rattle.layouts.specs.Meaning.{kind_for}
use Rattle.layouts.specs.declared.kinds.Kind.{Kind}
use Rattle.columns.specs.Lines.{field_line, heading}

abbrev pub field_lines : ℕ → ℕ → List Field → List (List ℕ) → List ℕ
field_lines letter mark [] names = []
field_lines letter mark (f ∷ fs) [] = []
field_lines letter mark (f ∷ fs) (n ∷ ns) = field_line letter mark f n ++ field_lines letter mark fs ns

pub record KindText (letter mark : ℕ) (fs : List Field) (bs : List ℕ) : Type 0 where
  pub title : List ℕ
  pub names : List (List ℕ)
  pub each : length names ≡ length fs
  pub lines : bs ≡ heading letter mark title ++ field_lines letter mark fs names

-- of some kinds, one after the other
abbrev pub KindsText : ℕ → Layout → List Kind → List ℕ → Type 0
KindsText letter l [] bs = bs ≡ []
KindsText letter l (k ∷ ks) bs =
    (b : List ℕ) × (rest : List ℕ) × (bs ≡ b ++ rest) × KindText letter k.mark (kind_of l k.mark).fields b × KindsText letter l ks rest

abbrev pub TableText : ℕ → Layout → List ℕ → Type 0
TableText letter l bs = KindsText letter l (map kind_for l.kinds) bs

-- what was written after what stood there is as P says
pub record Wrote (before after : List ℕ) (P : List ℕ → Type 0) : Type 0 where
  pub bytes : List ℕ
  pub put : after ≡ before ++ bytes
  pub text : P bytes
