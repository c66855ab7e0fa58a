-- How an input begins: a letter and LF, or not.
use Rattle.std.proofs.Common.{◌≡◌, ℕ, ◌<◌, ◌≤◌, cond, eqb, List, [], ◌∷◌, length, drop, Some, None, Err, Option, refl, ap, ◌∙◌, arith}
use Rattle.std.proofs.lemmas.Bool.Decides.{nat_tests}
use Rattle.std.proofs.lemmas.Bool.{le-leb, lt-leb}
use Rattle.books.specs.declared.letters.Letter.{Letter}
use Rattle.books.specs.declared.letters.Letter.TheVariants.{P, Q, S}
use Rattle.books.specs.Letters.{byte_of, layout_of}
use Rattle.verdicts.specs.Input.{named, letter_of, letter_on, checked_lines, checked_book, verdict_on}
use Rattle.verdicts.specs.Conferred.{headed}

pub letter_is : (l : Letter) (lines : List ℕ) → letter_on (headed l lines) ≡ Some l
letter_is P lines = refl
letter_is Q lines = refl
letter_is S lines = refl

head_is : (b c : ℕ) (l : Letter) → cond (eqb c 10) (letter_of b) None ≡ Some l → (b ≡ byte_of l) × (c ≡ 10)
head_is b c P h = (grind (arith, nat_tests), grind (arith, nat_tests))
head_is b c Q h = (grind (arith, nat_tests), grind (arith, nat_tests))
head_is b c S h = (grind (arith, nat_tests), grind (arith, nat_tests))

pub is_headed : (input : List ℕ) (l : Letter) → letter_on input ≡ Some l → input ≡ headed l (drop 2 input)
is_headed [] l h = cc
is_headed (b ∷ []) l h = cc
is_headed (b ∷ (c ∷ bs)) l h = let p = head_is b c l h in cc

-- an input that is not too long is judged by its letter
pub of_letter : (input : List ℕ) (l : Letter) (lines : List ℕ) → length input ≤ 60042 → input ≡ headed l lines → verdict_on input ≡ checked_lines (layout_of l) lines
of_letter input l lines few is = rw (le-leb (length input) 60042 few) (ap (λ i. checked_book (letter_on i) (drop 2 i)) is ∙ ap (λ o. checked_book o lines) (letter_is l lines))

pub of_none : (input : List ℕ) → length input ≤ 60042 → ((l : Letter) (lines : List ℕ) → input ≡ headed l lines → ⊥) → verdict_on input ≡ Err (named 32 0 0)
of_none input few none = rw (le-leb (length input) 60042 few) (ap (λ o. checked_book o (drop 2 input)) (is_none (letter_on input) (λ l is. none l (drop 2 input) (is_headed input l is))))
  where
    is_none : (o : Option Letter) → ((l : Letter) → o ≡ Some l → ⊥) → o ≡ None
    is_none None h = refl
    is_none (Some l) h = absurd (h l refl)

pub of_long : (input : List ℕ) → 60042 < length input → verdict_on input ≡ Err (named 33 0 0)
of_long input long = rw (lt-leb (length input) 60042 long)
