-- Looking for the first worked field that is wrong.
use Rattle.std.proofs.Common.{◌≡◌, ℕ, ◌+◌, ◌<◌, Bool, true, false, cond, not, ◌&&◌, eqb, List, [], ◌∷◌, map, length, get_or, drop, Some, Option, sym, refl, ap, ◌∙◌}
use Rattle.std.proofs.lemmas.List.{at_drop_more}
use Rattle.refusals.specs.Faults.{Fault, fault}
use Rattle.fields.specs.Field.{Family, fixed, digits, letters, long_digits, figured, family, Working}
use Rattle.fields.specs.Meaning.{field_of}
use Rattle.fields.specs.declared.field.Field as program
use Rattle.records.specs.Cells.{Origin, of_book, entered, reckoned, origin_at, origin, origins}
use Rattle.records.specs.Conditions.{number_in}
use Rattle.records.specs.Held.{cell_in, worked_next, digits_held}
use Rattle.legality.specs.Checks.{is_wrong, first_wrong}

module _ (j : ℕ) (looked : Working → Bool) (r : Working → ℕ) where
  wrong_first : (s : ℕ) (y : Family) (n : ℕ) (os : List Origin) (ds : List ℕ) → first_wrong j looked r (origin_at s y ∷ os) (worked_next (origin_at s y) n ds) ≡ cond (is_wrong looked r (origin_at s y) n) (Some (fault j s)) (first_wrong j looked r os ds)
  wrong_first s (fixed c) n os ds = refl
  wrong_first s digits n os ds = refl
  wrong_first s letters n os ds = refl
  wrong_first s long_digits n os ds = refl
  wrong_first s (figured k) n os ds = refl

  abbrev pub wrong_from : List program.Field → List ℕ → Option Fault
  wrong_from fields row = first_wrong j looked r (origins (map field_of fields)) (digits_held (map field_of fields) row)

  module _ (fields : List program.Field) (row : List ℕ) (i : ℕ) (d : program.Field) (l : i < length fields) where
    next_wrong : wrong_from (drop i fields) row ≡ cond (is_wrong looked r (origin (field_of (get_or fields i d))) (number_in (cell_in (field_of (get_or fields i d)) row))) (Some (fault j (get_or fields i d).start)) (wrong_from (drop (i + 1) fields) row)
    next_wrong =
        let f = field_of (get_or fields i d) in
        at_drop_more (λ fields. wrong_from fields row) fields i d l
        ∙ wrong_first f.start (family f.sort) (number_in (cell_in f row)) (origins (map field_of (drop (i + 1) fields))) (digits_held (map field_of (drop (i + 1) fields)) row)

    pub field_wrong : true ≡ is_wrong looked r (origin (field_of (get_or fields i d))) (number_in (cell_in (field_of (get_or fields i d)) row)) → wrong_from (drop i fields) row ≡ Some (fault j (get_or fields i d).start)
    field_wrong e = rw (sym e) at next_wrong

-- only the numbers that are looked at matter
pub same_wrong : (j : ℕ) (looked : Working → Bool) (r q : Working → ℕ) → ((k : Working) → looked k ≡ true → r k ≡ q k) → (os : List Origin) (ws : List ℕ) → first_wrong j looked r os ws ≡ first_wrong j looked q os ws
same_wrong j looked r q same [] ws = refl
same_wrong j looked r q same (of_book ∷ os) ws = same_wrong j looked r q same os ws
same_wrong j looked r q same (entered p ∷ os) ws = same_wrong j looked r q same os ws
same_wrong j looked r q same (reckoned s k ∷ os) [] = refl
same_wrong j looked r q same (reckoned s k ∷ os) (n ∷ ws) =
    ap (λ b. cond b (Some (fault j s)) (first_wrong j looked r os ws)) (alike (looked k) (same k)) ∙ ap (λ o. cond (looked k && not (eqb n (q k))) (Some (fault j s)) o) (same_wrong j looked r q same os ws)
  where
    alike : (b : Bool) → (b ≡ true → r k ≡ q k) → (b && not (eqb n (r k))) ≡ (b && not (eqb n (q k)))
    alike true h = ap (λ x. not (eqb n x)) (h refl)
    alike false h = refl
