-- The conditions of a kind, on what its fields hold.
use Rattle.std.specs.Prelude.{ℕ, ◌+◌, max, Bool, true, cond, not, ◌&&◌, ◌||◌, List, [], ◌∷◌, length, Some, None, Option, ◌==◌, nat_le, slice_index_or}
use Rattle.refusals.specs.Faults.{Fault, fault}
use Rattle.fields.specs.Field.{Field, num, txt, Cell, family, filled}
use Rattle.layouts.specs.Layout.{field_at}
use Rattle.layouts.specs.Lawful.{NamesPremise, NamesClaim}
use Rattle.layouts.specs.declared.conditions.Condition.{Condition}
use Rattle.layouts.specs.declared.conditions.Premise.{Premise}
use Rattle.layouts.specs.declared.conditions.Premise.TheVariants.{Always, IfCode, IfEither, IfFilled}
use Rattle.layouts.specs.declared.conditions.Claim.{Claim}
use Rattle.layouts.specs.declared.conditions.Claim.TheVariants.{IsFilled, NotFilled, IsCode, AtMost, Short, ShortBoth}

abbrev pub number_in : Cell → ℕ
number_in None = 0
number_in (Some (num n)) = n
number_in (Some (txt t)) = 0

abbrev pub text_in : Cell → List ℕ
text_in None = []
text_in (Some (num n)) = []
text_in (Some (txt t)) = t

abbrev pub cell_at : List Cell → ℕ → Cell
cell_at cs i = slice_index_or cs i None

abbrev pub number_at : List Cell → ℕ → ℕ
number_at cs i = number_in (cell_at cs i)

abbrev pub length_at : List Cell → ℕ → ℕ
length_at cs i = length (text_in (cell_at cs i))

abbrev pub filled_at : List Field → List Cell → ℕ → Bool
filled_at fs cs i = filled (family (field_at fs i).sort) (cell_at cs i)

abbrev pub premise_holds : List Field → List Cell → Premise → Bool
premise_holds fs cs Always = true
premise_holds fs cs (IfCode i a) = number_at cs i == a
premise_holds fs cs (IfEither i a b) = number_at cs i == a || number_at cs i == b
premise_holds fs cs (IfFilled i) = filled_at fs cs i

abbrev pub claim_holds : List Field → List Cell → Claim → Bool
claim_holds fs cs (IsFilled i) = filled_at fs cs i
claim_holds fs cs (NotFilled i) = not (filled_at fs cs i)
claim_holds fs cs (IsCode i a) = number_at cs i == a
claim_holds fs cs (AtMost i j) = nat_le (number_at cs i) (number_at cs j)
claim_holds fs cs (Short i n) = nat_le (length_at cs i) n
claim_holds fs cs (ShortBoth i j n) = nat_le (length_at cs i + length_at cs j) n

-- the highest start among the fields that are named
abbrev pub premise_start : List Field → Premise → ℕ
premise_start fs Always = 0
premise_start fs (IfCode i a) = (field_at fs i).start
premise_start fs (IfEither i a b) = (field_at fs i).start
premise_start fs (IfFilled i) = (field_at fs i).start

abbrev pub claim_start : List Field → Claim → ℕ
claim_start fs (IsFilled i) = (field_at fs i).start
claim_start fs (NotFilled i) = (field_at fs i).start
claim_start fs (IsCode i a) = (field_at fs i).start
claim_start fs (AtMost i j) = max (field_at fs i).start (field_at fs j).start
claim_start fs (Short i n) = (field_at fs i).start
claim_start fs (ShortBoth i j n) = max (field_at fs i).start (field_at fs j).start

abbrev pub breaks : List Field → List Cell → Condition → Bool
breaks fs cs c = premise_holds fs cs c.premise && not (claim_holds fs cs c.claim)

abbrev pub highest_start : List Field → Condition → ℕ
highest_start fs c = max (premise_start fs c.premise) (claim_start fs c.claim)

-- 15: the first condition that is broken
abbrev pub broken : List Field → List Cell → List Condition → Option Fault
broken fs cs [] = None
broken fs cs (c ∷ rest) = cond (breaks fs cs c) (Some (fault 15 (highest_start fs c))) (broken fs cs rest)

-- a condition names fields that are there, with the fitting sort
abbrev pub Named : List Field → Condition → Type 0
Named fs c = NamesPremise fs c.premise × NamesClaim fs c.claim
