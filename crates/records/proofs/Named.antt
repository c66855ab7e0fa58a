-- Conditions look at no worked field: contents that differ in worked fields only break the same conditions.
use Rattle.std.proofs.Common.{◌≡◌, ℕ, zero, suc, ◌+◌, ◌<◌, cond, not, ◌&&◌, ◌||◌, eqb, leb, List, [], ◌∷◌, length, Some, refl, ap, ◌∙◌, le_of_suc-le-suc, not-suc-le-zero}
use Rattle.std.specs.List.{AllByRecursion}
use Rattle.refusals.specs.Faults.{fault}
use Rattle.fields.specs.Field.{Field, Sort, constant, blank, text, word, number, code, date, amount, long, worked, Cell, family, filled}
use Rattle.layouts.specs.Layout.{field_at}
use Rattle.layouts.specs.Lawful.{CodeSort, NotWorked, NamesPremise, NamesClaim}
use Rattle.layouts.specs.declared.conditions.Condition.{Condition}
use Rattle.layouts.specs.declared.conditions.Premise.{Premise}
use Rattle.layouts.specs.declared.conditions.Premise.TheVariants.{Always, IfCode, IfEither, IfFilled}
use Rattle.layouts.specs.declared.conditions.Claim.{Claim}
use Rattle.layouts.specs.declared.conditions.Claim.TheVariants.{IsFilled, NotFilled, IsCode, AtMost, Short, ShortBoth}
use Rattle.records.specs.Cells.{origin_at, origins}
use Rattle.records.specs.Conditions.{number_in, text_in, cell_at, number_at, premise_holds, claim_holds, breaks, highest_start, broken, Named}
use Rattle.records.proofs.Cells.{AlikeAt, Alike}

-- sorts that a condition may name are not worked
code_unworked : (s : Sort) → CodeSort s → NotWorked s
code_unworked s h k e = let is = h.1 in cc

amount_unworked : (s : Sort) → s ≡ amount → NotWorked s
amount_unworked s h k e = cc

text_unworked : (s : Sort) → s ≡ text → NotWorked s
text_unworked s h k e = cc

alike_here : (a : ℕ) (s : Sort) (c d : Cell) → NotWorked s → AlikeAt (origin_at a (family s)) c d → c ≡ d
alike_here a (constant x) c d h e = e
alike_here a blank c d h e = e
alike_here a text c d h e = e
alike_here a (word us) c d h e = e
alike_here a number c d h e = e
alike_here a (code cs) c d h e = e
alike_here a date c d h e = e
alike_here a amount c d h e = e
alike_here a long c d h e = e
alike_here a (worked k) c d h e = absurd (h k refl)

pub alike_at : (fs : List Field) (cs ds : List Cell) → Alike (origins fs) cs ds → (i : ℕ) → i < length fs → NotWorked (field_at fs i).sort → cell_at cs i ≡ cell_at ds i
alike_at [] cs ds a i l h = absurd (not-suc-le-zero l)
alike_at (f ∷ fs) [] ds a i l h = absurd a
alike_at (f ∷ fs) (c ∷ cs) [] a i l h = absurd a
alike_at (f ∷ fs) (c ∷ cs) (d ∷ ds) a zero l h = alike_here f.start f.sort c d h a.0
alike_at (f ∷ fs) (c ∷ cs) (d ∷ ds) a (suc i) l h = alike_at fs cs ds a.1 i (le_of_suc-le-suc l) h

module _ (fs : List Field) (cs ds : List Cell) (a : Alike (origins fs) cs ds) where
  code_same : (i : ℕ) → (i < length fs) × CodeSort (field_at fs i).sort → cell_at cs i ≡ cell_at ds i
  code_same i h = alike_at fs cs ds a i h.0 (code_unworked (field_at fs i).sort h.1)

  amount_same : (i : ℕ) → (i < length fs) × ((field_at fs i).sort ≡ amount) → cell_at cs i ≡ cell_at ds i
  amount_same i h = alike_at fs cs ds a i h.0 (amount_unworked (field_at fs i).sort h.1)

  text_same : (i : ℕ) → (i < length fs) × ((field_at fs i).sort ≡ text) → cell_at cs i ≡ cell_at ds i
  text_same i h = alike_at fs cs ds a i h.0 (text_unworked (field_at fs i).sort h.1)

  filled_same : (i : ℕ) → (i < length fs) × NotWorked (field_at fs i).sort → filled (family (field_at fs i).sort) (cell_at cs i) ≡ filled (family (field_at fs i).sort) (cell_at ds i)
  filled_same i h = ap (filled (family (field_at fs i).sort)) (alike_at fs cs ds a i h.0 h.1)

  premise_same : (p : Premise) → NamesPremise fs p → premise_holds fs cs p ≡ premise_holds fs ds p
  premise_same Always h = refl
  premise_same (IfCode i x) h = ap (λ c. eqb (number_in c) x) (code_same i h)
  premise_same (IfEither i x y) h = ap (λ c. eqb (number_in c) x || eqb (number_in c) y) (code_same i h)
  premise_same (IfFilled i) h = filled_same i h

  claim_same : (p : Claim) → NamesClaim fs p → claim_holds fs cs p ≡ claim_holds fs ds p
  claim_same (IsFilled i) h = filled_same i h
  claim_same (NotFilled i) h = ap not (filled_same i h)
  claim_same (IsCode i x) h = ap (λ c. eqb (number_in c) x) (code_same i h)
  claim_same (AtMost i j) h = ap (λ c. leb (number_in c) (number_at cs j)) (amount_same i h.0) ∙ ap (λ c. leb (number_at ds i) (number_in c)) (amount_same j h.1)
  claim_same (Short i n) h = ap (λ c. leb (length (text_in c)) n) (text_same i h)
  claim_same (ShortBoth i j n) h = ap (λ c. leb (length (text_in c) + length (text_in (cell_at cs j))) n) (text_same i h.0) ∙ ap (λ c. leb (length (text_in (cell_at ds i)) + length (text_in c)) n) (text_same j h.1)

  pub broken_same : (conditions : List Condition) → AllByRecursion (Named fs) conditions → broken fs cs conditions ≡ broken fs ds conditions
  broken_same [] h = refl
  broken_same (c ∷ rest) h =
      ap (λ b. cond (b && not (claim_holds fs cs c.claim)) (Some (fault 15 (highest_start fs c))) (broken fs cs rest)) (premise_same c.premise h.0.0)
      ∙ ap (λ b. cond (premise_holds fs ds c.premise && not b) (Some (fault 15 (highest_start fs c))) (broken fs cs rest)) (claim_same c.claim h.0.1)
      ∙ ap (λ r. cond (breaks fs ds c) (Some (fault 15 (highest_start fs c))) r) (broken_same rest h.1)
