-- The fields of a kind, one after the other: what their bytes read as, what their contents print as, and how an entry's values and the worked numbers stand in them.
use Rattle.std.specs.Prelude.{ℕ, ◌+◌, min, Bool, true, false, cond, List, [], ◌∷◌, ◌++◌, map, length, take, drop, Some, None, Ok, Err, Option, Result, ◌==◌}
use Rattle.refusals.specs.Faults.{Fault, fault, and_then, first_some, fault_in}
use Rattle.fields.specs.Field.{Field, Family, fixed, digits, letters, long_digits, figured, family, Working, Value, num, txt, Cell, read_field, write_field}
use Rattle.fields.specs.InRow.{at_field}

abbrev pub read_cells : List Field → List ℕ → Result (List Cell) Fault
read_cells [] bs = Ok []
read_cells (f ∷ fs) bs = and_then (at_field f (read_field f (take f.width bs))) (λ c. and_then (read_cells fs (drop f.width bs)) (λ cs. Ok (c ∷ cs)))

abbrev pub write_cells : List Field → List Cell → Result (List ℕ) Fault
write_cells [] [] = Ok []
write_cells [] (c ∷ cs) = Err (fault 31 0)
write_cells (f ∷ fs) [] = Err (fault 31 0)
write_cells (f ∷ fs) (c ∷ cs) = and_then (at_field f (write_field f c)) (λ b. and_then (write_cells fs cs) (λ bs. Ok (b ++ bs)))

-- where a field's content comes from: the book, the entry (a number or a text), or, with its start, the draft's reckoning
pub data Origin : Type 0 where
  of_book : Origin
  entered : (Value → Bool) → Origin
  reckoned : ℕ → Working → Origin

abbrev pub is_num : Value → Bool
is_num (num n) = true
is_num (txt t) = false

abbrev pub is_txt : Value → Bool
is_txt (num n) = false
is_txt (txt t) = true

abbrev pub origin_at : ℕ → Family → Origin
origin_at s (fixed c) = of_book
origin_at s digits = entered is_num
origin_at s letters = entered is_txt
origin_at s long_digits = entered is_txt
origin_at s (figured k) = reckoned s k

abbrev pub origin : Field → Origin
origin f = origin_at f.start (family f.sort)

abbrev pub origins : List Field → List Origin
origins [] = []
origins (f ∷ fs) = origin f ∷ origins fs

-- values and worked numbers, dealt out to their fields; what is left over stands after the last
abbrev pub cells : List Origin → List Value → List ℕ → List Cell
cells [] vs ws = map Some vs ++ map (λ n. Some (num n)) ws
cells (of_book ∷ os) vs ws = None ∷ cells os vs ws
cells (entered p ∷ os) [] ws = None ∷ cells os [] ws
cells (entered p ∷ os) (v ∷ vs) ws = Some v ∷ cells os vs ws
cells (reckoned s k ∷ os) vs [] = None ∷ cells os vs []
cells (reckoned s k ∷ os) vs (n ∷ ws) = Some (num n) ∷ cells os vs ws

-- and gathered from them
abbrev pub values_in : List Origin → List Cell → List Value
values_in [] cs = []
values_in (o ∷ os) [] = []
values_in (of_book ∷ os) (c ∷ cs) = values_in os cs
values_in (entered p ∷ os) (None ∷ cs) = values_in os cs
values_in (entered p ∷ os) (Some v ∷ cs) = v ∷ values_in os cs
values_in (reckoned s k ∷ os) (c ∷ cs) = values_in os cs

abbrev pub digits_in : List Origin → List Cell → List ℕ
digits_in [] cs = []
digits_in (o ∷ os) [] = []
digits_in (of_book ∷ os) (c ∷ cs) = digits_in os cs
digits_in (entered p ∷ os) (c ∷ cs) = digits_in os cs
digits_in (reckoned s k ∷ os) (None ∷ cs) = digits_in os cs
digits_in (reckoned s k ∷ os) (Some (num n) ∷ cs) = n ∷ digits_in os cs
digits_in (reckoned s k ∷ os) (Some (txt t) ∷ cs) = digits_in os cs

-- 31: the lesser count plus 1 for a wrong number of values, else the first value of another sort
abbrev pub sorts_asked : List Origin → List (Value → Bool)
sorts_asked [] = []
sorts_asked (of_book ∷ os) = sorts_asked os
sorts_asked (entered p ∷ os) = p ∷ sorts_asked os
sorts_asked (reckoned s k ∷ os) = sorts_asked os

abbrev pub first_other : {V : Type 0} → ℕ → List (V → Bool) → List V → Option ℕ
first_other n [] vs = None
first_other n (p ∷ ps) [] = None
first_other n (p ∷ ps) (v ∷ vs) = cond (p v) (first_other (n + 1) ps vs) (Some n)

abbrev pub wrong_value : {V : Type 0} → List (V → Bool) → List V → Option ℕ
wrong_value ps vs = cond (length ps == length vs) (first_other 1 ps vs) (Some (min (length ps) (length vs) + 1))

-- the first field, by position, whose content does not print: worked fields are the draft's own
abbrev pub unworked : Origin → Option Fault → Option Fault
unworked of_book r = r
unworked (entered p) r = r
unworked (reckoned s k) r = None

abbrev pub unprinted : List Field → List Cell → Option Fault
unprinted [] cs = None
unprinted (f ∷ fs) [] = None
unprinted (f ∷ fs) (c ∷ cs) = first_some (unworked (origin f) (fault_in (at_field f (write_field f c))) ∷ (unprinted fs cs ∷ []))
