-- THE LAW OF THE LINE: an OK line exactly for a legal file, with its rows and its total; else the first fault.
use Rattle.std.specs.Prelude.{◌≡◌, ℕ, ◌+◌, ◌/◌, ◌^◌, ◌<◌, ◌≤◌, List, ◌∷◌, length, Err, ◌≢◌}
use Rattle.std.specs.List.{flat_map}
use Rattle.refusals.specs.declared.table.Refusal.{Refusal}
use Rattle.forms.specs.Forms.{hex_byte, hex_line}
use Rattle.rows.specs.Lines.{Whole, OfBytes, FirstBad}
use Rattle.records.specs.Row.{Entry}
use Rattle.legality.specs.Before.{sum_of, rows_of}
use Rattle.legality.specs.File.{Legal, checked}
use Rattle.books.specs.declared.letters.Letter.{Letter}
use Rattle.books.specs.Letters.{byte_of, layout_of}
use Rattle.verdicts.specs.Printed.{ok_line, no_line}

-- a letter, LF, and what comes after them
abbrev pub headed : Letter → List ℕ → List ℕ
headed l lines = byte_of l ∷ (10 ∷ lines)

-- the input is the letter, LF and the hexadecimal lines of a legal file of that book, at most 40 rows
pub record LegalInput (input : List ℕ) (l : Letter) (es : List Entry) : Type 0 where
  pub legal : Legal (layout_of l) es
  pub few : length es ≤ 40
  pub written : input ≡ headed l (flat_map hex_line (rows_of (layout_of l) es))

-- the first fault of an input: its number, its row and its position
pub data FirstFault (input : List ℕ) : ℕ → ℕ → ℕ → Type 0 where
  too_long : 60042 < length input → FirstFault input 33 0 0
  no_book : length input ≤ 60042 → ((l : Letter) (lines : List ℕ) → input ≢ headed l lines) → FirstFault input 32 0 0
  bad_form : (l : Letter) (lines : List ℕ) (at : ℕ) → length input ≤ 60042 → input ≡ headed l lines → FirstBad hex_byte 1501 lines at → FirstFault input 1 (at / 1501 + 1) 0
  bad_file : (l : Letter) (rows : List (List ℕ)) (r : Refusal) → length rows ≤ 40 → Whole rows → OfBytes rows → input ≡ headed l (flat_map hex_line rows) → checked (layout_of l) rows ≡ Err r → FirstFault input r.number r.first r.second

pub record Conferred (input line : List ℕ) : Type 0 where
  -- the line of a legal file is an OK line with its rows and its total
  pub passes : (l : Letter) (es : List Entry) → LegalInput input l es → line ≡ ok_line (length es) (sum_of (layout_of l) es)
  -- an OK line is the line of a legal file, and its rows and its total are that file's
  pub only : (rows total : ℕ) → line ≡ ok_line rows total → (l : Letter) × (es : List Entry) × LegalInput input l es × (rows < 10 ^ 5 → rows ≡ length es) × (total < 10 ^ 17 → total ≡ sum_of (layout_of l) es)
  -- any other input has a first fault, and its line names it
  pub faulty : ((l : Letter) (es : List Entry) → LegalInput input l es → ⊥) → (n : ℕ) × (row : ℕ) × (position : ℕ) × FirstFault input n row position
  pub names : (n row position : ℕ) → FirstFault input n row position → line ≡ no_line n row position
