-- The letters by which the books are known, and what the book of a letter means.
use Rattle.std.specs.Prelude.{◌≡◌, ℕ, List, [], ◌∷◌, Result, MatchResult, ◌≢◌}
use Rattle.layouts.specs.Layout.{Layout}
use Rattle.books.specs.declared.letters.Letter.{Letter}
use Rattle.books.specs.declared.letters.Letter.TheVariants.{P, Q, S}
use Rattle.books.specs.declared.letters.NoLetter.{NoLetter}
use Rattle.outgoing_receipts.specs.BookP.{layout_p}
use Rattle.returned_receipts.specs.BookQ.{layout_q}
use Rattle.recurring_charges.specs.BookS.{layout_s}

abbrev pub byte_of : Letter → ℕ
byte_of P = 80
byte_of Q = 81
byte_of S = 83

-- the result is the letter of this byte, or an error where no letter has it
abbrev pub ReadsByte : ℕ → Result Letter NoLetter → Type 0
ReadsByte byte r = MatchResult r (λ l. byte_of l ≡ byte) (λ _. (l : Letter) → byte_of l ≢ byte)

-- the result is the letter that is this word, or an error where none is
abbrev pub ReadsWord : List ℕ → Result Letter NoLetter → Type 0
ReadsWord word r = MatchResult r (λ l. word ≡ byte_of l ∷ []) (λ _. (l : Letter) → word ≢ byte_of l ∷ [])

abbrev pub layout_of : Letter → Layout
layout_of P = layout_p
layout_of Q = layout_q
layout_of S = layout_s
