-- A field of a book as one line, as `P 1 123-123 code required 1 2 # TIPO COBRANCA`.
use Rattle.std.specs.Prelude.{ℕ, ◌+◌, ◌-◌, Bool, true, false, cond, List, [], ◌∷◌, ◌++◌, codes, decimal}
use Rattle.numbers.specs.Digits.{printed}
use Rattle.fields.specs.Field.{Field, Sort, constant, blank, text, word, number, code, date, amount, long, worked, Working, number_of_row, number_of_owner, total, count}

-- the word for a sort
abbrev pub worked_word : Working → List ℕ
worked_word number_of_row = codes "row-number"
worked_word number_of_owner = codes "owner-number"
worked_word total = codes "total"
worked_word count = codes "count"

abbrev pub sort_word : Sort → List ℕ
sort_word (constant c) = codes "constant"
sort_word blank = codes "blank"
sort_word text = codes "text"
sort_word (word us) = codes "word"
sort_word number = codes "number"
sort_word (code cs) = codes "code"
sort_word date = codes "date"
sort_word amount = codes "amount"
sort_word long = codes "long-digits"
sort_word (worked k) = worked_word k

-- whether somebody gives the field a value, so that it is required or optional
abbrev pub is_given : Sort → Bool
is_given (constant c) = false
is_given blank = false
is_given text = true
is_given (word us) = true
is_given number = true
is_given (code cs) = true
is_given date = true
is_given amount = true
is_given long = true
is_given (worked k) = false

abbrev pub requirement : Field → List ℕ
requirement f = cond (is_given f.sort) (cond f.required (codes " required") (codes " optional")) []

-- what the sort admits: codes as numbers, words and constants in double quotes
abbrev pub spread : {X : Type 0} → (X → List ℕ) → List X → List ℕ
spread f [] = []
spread f (x ∷ xs) = f x ++ spread f xs

abbrev pub spaced : ℕ → List ℕ
spaced n = 32 ∷ decimal n

abbrev pub quoted : List ℕ → List ℕ
quoted bs = 32 ∷ 34 ∷ (bs ++ (34 ∷ []))

abbrev pub admitted : Sort → List ℕ
admitted (constant c) = quoted c
admitted blank = []
admitted text = []
admitted (word us) = spread quoted us
admitted number = []
admitted (code cs) = spread spaced cs
admitted date = []
admitted amount = []
admitted long = []
admitted (worked k) = []

-- the first and the last position, in three digits
abbrev pub positions : Field → List ℕ
positions f = printed 3 f.start ++ (45 ∷ printed 3 (f.start + f.width - 1))

abbrev pub place : ℕ → ℕ → Field → List ℕ
place letter mark f = letter ∷ 32 ∷ mark ∷ 32 ∷ positions f

abbrev pub sort_text : Field → List ℕ
sort_text f = 32 ∷ (sort_word f.sort ++ (requirement f ++ admitted f.sort))

abbrev pub ended : List ℕ → List ℕ
ended bs = bs ++ (10 ∷ [])

-- a name after the field
abbrev pub remark : List ℕ → List ℕ
remark name = codes " # " ++ ended name

abbrev pub field_line : ℕ → ℕ → Field → List ℕ → List ℕ
field_line letter mark f name = place letter mark f ++ (sort_text f ++ remark name)

-- the line before the fields of a kind, as `# P kind 1 - REGISTRO DETALHE`
abbrev pub lead : ℕ → ℕ → List ℕ
lead letter mark = 35 ∷ 32 ∷ letter ∷ (codes " kind " ++ (mark ∷ codes " - "))

abbrev pub heading : ℕ → ℕ → List ℕ → List ℕ
heading letter mark title = lead letter mark ++ ended title
