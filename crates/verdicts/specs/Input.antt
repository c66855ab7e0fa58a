-- The input of a program: the letter of a book, LF, and a file of that book in the hexadecimal form.
use Rattle.std.specs.Prelude.{ℕ, ◌+◌, ◌/◌, ◌%◌, Bool, cond, not, List, [], ◌∷◌, length, drop, Some, None, Ok, Err, Option, Result, ◌==◌, nat_le}
use Rattle.refusals.specs.declared.table.Refusal.{Refusal}
use Rattle.forms.specs.Forms.{hex_byte, unhexed}
use Rattle.rows.specs.Lines.{opened}
use Rattle.refusals.specs.Faults.{and_then, answer}
use Rattle.fields.specs.Places.{first_bad, some_bad}
use Rattle.layouts.specs.Layout.{Layout}
use Rattle.legality.specs.File.{Accepted, checked}
use Rattle.books.specs.declared.letters.Letter.{Letter}
use Rattle.books.specs.declared.letters.Letter.TheVariants.{P, Q, S}
use Rattle.books.specs.Letters.{layout_of}

abbrev pub letter_of : ℕ → Option Letter
letter_of b = cond (b == 80) (Some P) (cond (b == 81) (Some Q) (cond (b == 83) (Some S) None))

-- the letter that an input begins with, if LF comes after it
abbrev pub letter_on : List ℕ → Option Letter
letter_on [] = None
letter_on (b ∷ []) = None
letter_on (b ∷ (c ∷ bs)) = cond (c == 10) (letter_of b) None

abbrev pub bad_byte : ℕ → ℕ → Bool
bad_byte k b = not (hex_byte (k % 1501) b)

-- what a line tells of a fault: its number, and its row and position, or 0
pub record Named : Type 0 where
  pub number : ℕ
  pub row : ℕ
  pub position : ℕ

abbrev pub named : ℕ → ℕ → ℕ → Named
named n r p = record { number = n; row = r; position = p }

-- 1: the row of the first byte that breaks the hexadecimal form, or of the last line if only that is cut short
abbrev pub broken_at : ℕ → Named
broken_at at = named 1 (at / 1501 + 1) 0

abbrev pub form1 : List ℕ → Option Named
form1 bs = cond (some_bad bad_byte bs) (Some (broken_at (first_bad bad_byte 0 bs))) (cond (length bs % 1501 == 0) None (Some (broken_at (length bs))))

-- a file's refusal returns its row and position
abbrev pub in_names : Result Accepted Refusal → Result Accepted Named
in_names (Ok a) = Ok a
in_names (Err r) = Err (named r.number r.first r.second)

-- lines of a file of the book
abbrev pub checked_lines : Layout → List ℕ → Result Accepted Named
checked_lines l lines = and_then (answer (form1 lines) (opened unhexed 1501 lines)) (λ rows. in_names (checked l rows))

abbrev pub checked_book : Option Letter → List ℕ → Result Accepted Named
checked_book None lines = Err (named 32 0 0)
checked_book (Some l) lines = checked_lines (layout_of l) lines

-- THE VERDICT: 33 above 60,042 bytes, which are a letter, LF and 40 lines; then 32, 1, and the file
abbrev pub verdict_on : List ℕ → Result Accepted Named
verdict_on input = cond (nat_le (length input) 60042) (checked_book (letter_on input) (drop 2 input)) (Err (named 33 0 0))
