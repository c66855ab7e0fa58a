-- One field: what it holds, what its bytes read as, what its content is written as, and the law between the two.
use Rattle.std.specs.Prelude.{◌≡◌, ℕ, ◌+◌, Bool, true, false, cond, not, ◌&&◌, ◌||◌, ltb, List, [], ◌∷◌, length, Some, None, Ok, Err, Option, Result, ◌==◌, nat_le, nat_lt, slice_index_or}
use Rattle.fields.specs.declared.flaws.Flaw.{Flaw}
use Rattle.fields.specs.declared.flaws.Flaw.TheVariants.{Differs, Empty, Unfit}
use Rattle.refusals.specs.Faults.{and_then}
use Rattle.fields.specs.Places.{some_bad, checked}
use Rattle.fields.specs.Digits.{check_digits, read_number, write_number}
use Rattle.numbers.specs.Digits.{printed}
use Rattle.fields.specs.Text.{padded, read_text, write_text}
use Rattle.numbers.specs.Dates.{is_date}

-- what a draft works out by itself
pub data Working : Type 0 where
  number_of_row : Working
  number_of_owner : Working
  total : Working
  count : Working

pub data Sort : Type 0 where
  constant : List ℕ → Sort
  blank : Sort
  text : Sort
  word : List (List ℕ) → Sort
  number : Sort
  code : List ℕ → Sort
  date : Sort
  amount : Sort
  long : Sort
  worked : Working → Sort

-- how a sort is written
pub data Family : Type 0 where
  fixed : List ℕ → Family
  digits : Family
  letters : Family
  long_digits : Family
  figured : Working → Family

abbrev pub family : Sort → Family
family (constant c) = fixed c
family blank = fixed []
family text = letters
family (word us) = letters
family number = digits
family (code cs) = digits
family date = digits
family amount = digits
family long = long_digits
family (worked k) = figured k

pub record Field : Type 0 where
  pub start : ℕ
  pub width : ℕ
  pub sort : Sort
  pub required : Bool

pub data Value : Type 0 where
  num : ℕ → Value
  txt : List ℕ → Value

-- what a field holds: a constant or a blank no value, a worked field its number
abbrev pub Cell : Type 0
Cell = Option Value

-- THE WIDTHS that fit a sort, and a field that lies in its row of 750 positions
abbrev pub between : ℕ → ℕ → ℕ → Bool
between a b n = nat_le a n && nat_le n b

abbrev pub wide_worked : Working → ℕ → Bool
wide_worked number_of_row w = w == 6
wide_worked number_of_owner w = w == 6
wide_worked total w = w == 17
wide_worked count w = between 6 18 w

abbrev pub wide : Sort → ℕ → Bool
wide (constant c) w = nat_le (length c) w
wide blank w = true
wide text w = true
wide (word us) w = true
wide number w = between 1 18 w
wide (code cs) w = between 1 18 w
wide date w = w == 8
wide amount w = w == 17
wide long w = w == 20
wide (worked k) w = wide_worked k w

abbrev pub inside : ℕ → ℕ → Bool
inside start width = nat_le 1 start && nat_le (start + width) 751

abbrev pub fits : Field → Bool
fits f = inside f.start f.width && wide f.sort f.width

-- THE BYTES as they are: the faults of a byte, and lengths that do not fit
abbrev pub differs : List ℕ → ℕ → ℕ → Bool
differs c k b = not (b == slice_index_or c k 32)

-- a fixed content, with blanks after it
abbrev pub read_fixed : List ℕ → List ℕ → Result Cell Flaw
read_fixed c bs = and_then (checked Differs (differs c) bs) (λ _. Ok None)

-- exactly as many digits as the field has bytes
abbrev pub write_long : ℕ → List ℕ → Result (List ℕ) Flaw
write_long w t = cond (length t == w) (check_digits t) (Err Unfit)

abbrev pub as_num : Result ℕ Flaw → Result Cell Flaw
as_num r = and_then r (λ n. Ok (Some (num n)))

abbrev pub as_txt : Result (List ℕ) Flaw → Result Cell Flaw
as_txt r = and_then r (λ t. Ok (Some (txt t)))

abbrev pub raw_read : Family → List ℕ → Result Cell Flaw
raw_read (fixed c) bs = read_fixed c bs
raw_read digits bs = as_num (read_number bs)
raw_read letters bs = as_txt (read_text bs)
raw_read long_digits bs = as_txt (check_digits bs)
raw_read (figured k) bs = as_num (read_number bs)

abbrev pub fixed_in : List ℕ → ℕ → Cell → Result (List ℕ) Flaw
fixed_in c w None = cond (nat_lt w (length c)) (Err Unfit) (Ok (padded w c))
fixed_in c w (Some v) = Err Unfit

abbrev pub num_in : ℕ → Cell → Result (List ℕ) Flaw
num_in w None = Err Unfit
num_in w (Some (num n)) = write_number w n
num_in w (Some (txt t)) = Err Unfit

abbrev pub txt_in : (ℕ → List ℕ → Result (List ℕ) Flaw) → ℕ → Cell → Result (List ℕ) Flaw
txt_in f w None = Err Unfit
txt_in f w (Some (num n)) = Err Unfit
txt_in f w (Some (txt t)) = f w t

abbrev pub raw_write : Family → ℕ → Cell → Result (List ℕ) Flaw
raw_write (fixed c) w v = fixed_in c w v
raw_write digits w v = num_in w v
raw_write letters w v = txt_in write_text w v
raw_write long_digits w v = txt_in write_long w v
raw_write (figured k) w v = num_in w v

-- what a content that fits is written as
abbrev pub fixed_of : Family → List ℕ
fixed_of (fixed c) = c
fixed_of digits = []
fixed_of letters = []
fixed_of long_digits = []
fixed_of (figured k) = []

abbrev pub shown : Family → ℕ → Cell → List ℕ
shown a w None = padded w (fixed_of a)
shown a w (Some (num n)) = printed w n
shown a w (Some (txt t)) = padded w t

-- THE VALUE: whether the field is filled, and whether the sort's list or calendar has it
abbrev pub any_of : List ℕ → ℕ → Bool
any_of [] n = false
any_of (c ∷ cs) n = n == c || any_of cs n

abbrev pub same : List ℕ → List ℕ → Bool
same [] [] = true
same [] (b ∷ bs) = false
same (a ∷ xs) [] = false
same (a ∷ xs) (b ∷ bs) = a == b && same xs bs

abbrev pub one_of : List (List ℕ) → List ℕ → Bool
one_of [] t = false
one_of (u ∷ us) t = same u t || one_of us t

abbrev pub on_num : (ℕ → Bool) → Cell → Bool
on_num p None = true
on_num p (Some (num n)) = p n
on_num p (Some (txt t)) = true

abbrev pub on_txt : (List ℕ → Bool) → Cell → Bool
on_txt p None = true
on_txt p (Some (num n)) = true
on_txt p (Some (txt t)) = p t

abbrev pub listed : Sort → Cell → Bool
listed (constant c) v = true
listed blank v = true
listed text v = true
listed (word us) v = on_txt (one_of us) v
listed number v = true
listed (code cs) v = on_num (any_of cs) v
listed date v = on_num is_date v
listed amount v = true
listed long v = true
listed (worked k) v = true

-- 0, an empty text and digits that are all 0 are not filled; what the draft works out always is
abbrev pub no_zero : ℕ → ℕ → Bool
no_zero k b = not (b == 48)

abbrev pub filled : Family → Cell → Bool
filled (fixed c) v = true
filled digits v = on_num (ltb 0) v
filled letters v = on_txt (λ t. ltb 0 (length t)) v
filled long_digits v = on_txt (some_bad no_zero) v
filled (figured k) v = true

-- 12 for a required field that is not filled, 13 for a filled one that is not listed
abbrev pub gate : Sort → Bool → Cell → Result Cell Flaw
gate s required v = cond (filled (family s) v) (cond (listed s v) (Ok v) (Err Unfit)) (cond required (Err Empty) (Ok v))

-- READING AND WRITING. A field that does not fit its sort or its row is refused whatever it holds
abbrev pub read_field : Field → List ℕ → Result Cell Flaw
read_field f bs = cond (fits f) (and_then (raw_read (family f.sort) bs) (gate f.sort f.required)) (Err Unfit)

abbrev pub write_field : Field → Cell → Result (List ℕ) Flaw
write_field f v = cond (fits f) (and_then (raw_write (family f.sort) f.width v) (λ bs. and_then (gate f.sort f.required v) (λ _. Ok bs))) (Err Unfit)

-- THE FIELD LAW: bytes of the field's width read as v exactly when v is written as them
abbrev pub FieldLaw : Type 0
FieldLaw =
    (f : Field) (bs : List ℕ) (v : Cell) →
    ((length bs ≡ f.width) × (read_field f bs ≡ Ok v) → write_field f v ≡ Ok bs) × (write_field f v ≡ Ok bs → (length bs ≡ f.width) × (read_field f bs ≡ Ok v))

-- two contents that are written as the same bytes are equal
abbrev pub OneValue : Type 0
OneValue = (f : Field) (bs : List ℕ) (u v : Cell) → write_field f u ≡ Ok bs → write_field f v ≡ Ok bs → u ≡ v

-- bytes that are read are what their content is written as
abbrev pub ReadIsWritten : Type 0
ReadIsWritten = (f : Field) (bs : List ℕ) (v : Cell) → length bs ≡ f.width → read_field f bs ≡ Ok v → write_field f v ≡ Ok bs
