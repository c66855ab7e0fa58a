-- The laws of a book: these and no other. Two of them the layout keeps by its shape: at most one kind owns followers, all
-- of one kind, since it has one group at most; and at most one amount is summed, since it has one such place at most.
use Rattle.std.specs.Prelude.{◌≡◌, ℕ, ◌+◌, ◌-◌, ◌<◌, ◌≤◌, ◌⊎◌, List, [], ◌∷◌, length, Some, ◌≢◌, slice_index}
use Rattle.std.specs.List.{AllByRecursion}
use Rattle.fields.specs.Field.{Field, Sort, constant, blank, text, word, number, code, date, amount, long, worked, Working, number_of_row, number_of_owner, total, count}
use Rattle.layouts.specs.Layout.{Layout, Kind, Group, Place, field_at, found, kind_of}
use Rattle.layouts.specs.declared.conditions.Premise.{Premise}
use Rattle.layouts.specs.declared.conditions.Premise.TheVariants.{Always, IfCode, IfEither, IfFilled}
use Rattle.layouts.specs.declared.conditions.Claim.{Claim}
use Rattle.layouts.specs.declared.conditions.Claim.TheVariants.{IsFilled, NotFilled, IsCode, AtMost, Short, ShortBoth}

abbrev pub Between : ℕ → ℕ → ℕ → Type 0
Between a b n = (a ≤ n) × (n ≤ b)

abbrev pub Apart : ℕ → ℕ → Type 0
Apart a b = a ≡ b → ⊥

-- THE FIELDS OF A KIND
-- they stand one after the other from position p, and end with position 750
abbrev pub Covers : ℕ → List Field → Type 0
Covers p [] = p ≡ 751
Covers p (f ∷ fs) = (f.start ≡ p) × Covers (p + f.width) fs

-- the first is the mark, a constant of width 1
abbrev pub Begins : ℕ → List Field → Type 0
Begins m [] = ⊥
Begins m (f ∷ fs) = (f.sort ≡ constant (m ∷ [])) × (f.width ≡ 1)

-- the last is the row number, at 745 to 750
abbrev pub Ends : List Field → Type 0
Ends fs = let f = field_at fs (length fs - 1) in (f.sort ≡ worked number_of_row) × (f.start ≡ 745) × (f.width ≡ 6)

-- THE WIDTHS of a sort
abbrev pub WorkedWide : Working → ℕ → Type 0
WorkedWide number_of_row w = w ≡ 6
WorkedWide number_of_owner w = w ≡ 6
WorkedWide total w = w ≡ 17
WorkedWide count w = Between 6 18 w

abbrev pub Wide : Sort → ℕ → Type 0
Wide (constant c) w = Unit {0}
Wide blank w = Unit {0}
Wide text w = Unit {0}
Wide (word us) w = Unit {0}
Wide number w = Between 1 18 w
Wide (code cs) w = Between 1 18 w
Wide date w = w ≡ 8
Wide amount w = w ≡ 17
Wide long w = w ≡ 20
Wide (worked k) w = WorkedWide k w

-- CONSTANTS AND WORDS
abbrev pub Printable : List ℕ → Type 0
Printable bs = AllByRecursion (Between 32 126) bs

abbrev pub NoOuterBlank : List ℕ → Type 0
NoOuterBlank bs = Apart (slice_index bs 0) 32 × Apart (slice_index bs (length bs - 1)) 32

-- they are printable and fit their fields, words without an outer blank
pub record Contents (f : Field) : Type 0 where
  pub constants : (c : List ℕ) → f.sort ≡ constant c → Printable c × (length c ≤ f.width)
  pub words : (us : List (List ℕ)) → f.sort ≡ word us → AllByRecursion (λ u. Printable u × (length u ≤ f.width) × NoOuterBlank u) us

-- CONDITIONS name fields of their kind with the fitting sort, none of them worked
abbrev pub CodeSort : Sort → Type 0
CodeSort s = (cs : List ℕ) × (s ≡ code cs)

abbrev pub NotWorked : Sort → Type 0
NotWorked s = (k : Working) → s ≢ worked k

-- place i holds a field, and its sort is as P says
abbrev pub Names : List Field → ℕ → (Sort → Type 0) → Type 0
Names fs i P = (i < length fs) × P (field_at fs i).sort

abbrev pub NamesPremise : List Field → Premise → Type 0
NamesPremise fs Always = Unit {0}
NamesPremise fs (IfCode i a) = Names fs i CodeSort
NamesPremise fs (IfEither i a b) = Names fs i CodeSort
NamesPremise fs (IfFilled i) = Names fs i NotWorked

abbrev pub NamesClaim : List Field → Claim → Type 0
NamesClaim fs (IsFilled i) = Names fs i NotWorked
NamesClaim fs (NotFilled i) = Names fs i NotWorked
NamesClaim fs (IsCode i a) = Names fs i CodeSort
NamesClaim fs (AtMost i j) = Names fs i (λ s. s ≡ amount) × Names fs j (λ s. s ≡ amount)
NamesClaim fs (Short i n) = Names fs i (λ s. s ≡ text)
NamesClaim fs (ShortBoth i j n) = Names fs i (λ s. s ≡ text) × Names fs j (λ s. s ≡ text)

-- A mark that the book has
abbrev pub Has : Layout → ℕ → Type 0
Has l m = (k : Kind) × (found m l.kinds ≡ Some k)

pub record LawfulKind (l : Layout) (k : Kind) : Type 0 where
  -- the fields cover positions 1 to 750 in order, each once
  pub covers : Covers 1 k.fields
  pub begins : Begins k.mark k.fields
  pub ends : Ends k.fields
  -- numbers and codes have widths 1 to 18, dates 8, long digits 20, amounts and totals 17, row and owner numbers 6, counts 6 to 18
  pub widths : AllByRecursion (λ f. Wide f.sort f.width) k.fields
  pub contents : AllByRecursion Contents k.fields
  pub conditions : AllByRecursion (λ c. NamesPremise k.fields c.premise × NamesClaim k.fields c.claim) k.conditions
  -- totals and counts stand in the trailer only, owner numbers in followers only
  pub totals : AllByRecursion (λ f. f.sort ≡ worked total → k.mark ≡ l.trailer) k.fields
  pub counts : AllByRecursion (λ f. f.sort ≡ worked count → k.mark ≡ l.trailer) k.fields
  pub owners : AllByRecursion (λ f. f.sort ≡ worked number_of_owner → (g : Group) × (l.group ≡ Some g) × (k.mark ≡ g.follower)) k.fields
  -- nothing follows the trailer
  pub after : AllByRecursion (λ m. Apart m l.trailer) k.after

pub record LawfulGroup (l : Layout) (g : Group) : Type 0 where
  pub kinds : Has l g.owner × Has l g.follower
  -- followers are neither header nor trailer
  pub inside : Apart g.follower l.header × Apart g.follower l.trailer
  -- a follower stands only after its owner or another follower
  pub stands : AllByRecursion (λ m. (m ≡ g.owner) ⊎ (m ≡ g.follower)) (kind_of l g.follower).after
  -- both hold an identifier text of one width
  pub owner_text : Names (kind_of l g.owner).fields g.owner_identifier (λ s. s ≡ text)
  pub follower_text : Names (kind_of l g.follower).fields g.follower_identifier (λ s. s ≡ text)
  pub one_width : (field_at (kind_of l g.owner).fields g.owner_identifier).width ≡ (field_at (kind_of l g.follower).fields g.follower_identifier).width
  -- the owner holds a charge type code too
  pub charge_type : Names (kind_of l g.owner).fields g.owner_type CodeSort

-- no two kinds share a mark
abbrev pub MarksApart : List Kind → Type 0
MarksApart [] = Unit {0}
MarksApart (k ∷ ks) = AllByRecursion (λ o. Apart k.mark o.mark) ks × MarksApart ks

pub record Lawful (l : Layout) : Type 0 where
  pub kinds : AllByRecursion (LawfulKind l) l.kinds
  pub marks : MarksApart l.kinds
  pub group : (g : Group) → l.group ≡ Some g → LawfulGroup l g
  -- what is summed is an amount of a kind of the book, whichever kind that is
  pub summed : (p : Place) → l.summed ≡ Some p → Has l p.kind × Names (kind_of l p.kind).fields p.field (λ s. s ≡ amount)
  -- row 1 is a header and no other row is: it follows none
  pub header : Has l l.header × ((kind_of l l.header).after ≡ [])
  -- the trailer is another kind
  pub trailer : Has l l.trailer × Apart l.header l.trailer
