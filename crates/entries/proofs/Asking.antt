-- What the fields ask of an entry, one after the other.
use Rattle.std.proofs.Common.{◌≡◌, ℕ, ◌+◌, ◌<◌, true, false, cond, List, [], ◌∷◌, map, length, get_or, drop, Some, None, Option, sym, refl, ap, ◌∙◌}
use Rattle.std.specs.List.{cons_option, enumerate_from, filter, filter_map, zip}
use Rattle.std.specs.Option.{is_some, option_or}
use Rattle.std.proofs.lemmas.List.{length-map, at_drop_more}
use Rattle.refusals.specs.declared.table.Refusal.{Refusal}
use Rattle.refusals.specs.Refusals.{refusal}
use Rattle.refusals.specs.Faults.{unless}
use Rattle.fields.specs.Field as s
use Rattle.fields.specs.Meaning.{field_of, sort_of}
use Rattle.fields.specs.declared.field.Field.{Field}
use Rattle.fields.specs.declared.field.Sort.{Sort}
use Rattle.fields.specs.declared.field.Sort.TheVariants.{Constant, Blank, Text, Word, Number, Code, Date, Amount, LongDigits, Worked}
use Rattle.entries.specs.declared.origins.Asked.{Asked}
use Rattle.entries.specs.declared.origins.Origin.{Origin}
use Rattle.entries.specs.declared.origins.Origin.TheVariants as code
use Rattle.entries.specs.Asked.{origin_of, origin_in, asks_for, asked_at, asked_in, asked_by}
use Rattle.entries.specs.Taking.{entered_next, entered_of}
use Rattle.records.specs.declared.entries.Value.{Value}
use Rattle.records.specs.Cells as c
use Rattle.records.specs.Cells.{first_other}
use Rattle.records.specs.Entries.{suits, value_fault}

origin_by : (x : Sort) (a : ℕ) → c.origin_at a (s.family (sort_of x)) ≡ origin_of a (origin_in x)
origin_by (Constant c) a = refl
origin_by Blank a = refl
origin_by Text a = refl
origin_by (Word us) a = refl
origin_by Number a = refl
origin_by (Code cs) a = refl
origin_by Date a = refl
origin_by Amount a = refl
origin_by LongDigits a = refl
origin_by (Worked k) a = refl

pub origin_is : (f : Field) → c.origin (field_of f) ≡ origin_of f.start (origin_in f.sort)
origin_is f = origin_by f.sort f.start

-- the tests are those of what is asked
asks_next : (o : Origin) (a : ℕ) (os : List c.Origin) (xs : List Asked) → c.sorts_asked os ≡ map asks_for xs → c.sorts_asked (origin_of a o ∷ os) ≡ map asks_for (cons_option (asked_at o) xs)
asks_next code.Book a os xs e = e
asks_next (code.Entered k) a os xs e = ap (λ ps. asks_for k ∷ ps) e
asks_next (code.Worked k) a os xs e = e

pub asks_are : (fields : List Field) → asked_by fields ≡ map asks_for (filter_map asked_in fields)
asks_are [] = refl
asks_are (f ∷ fs) = rw (origin_is f) (asks_next (origin_in f.sort) f.start (c.origins (map field_of fs)) (filter_map asked_in fs) (asks_are fs))

pub asks_count : (fields : List Field) → length (filter_map asked_in fields) ≡ length (asked_by fields)
asks_count fields = sym (ap length (asks_are fields) ∙ length-map (filter_map asked_in fields) asks_for)

-- the fields that are asked for
enters_next : (o : Origin) (a : ℕ) (f : Field) (xs : List s.Field) (ys : List Field) → xs ≡ map field_of ys → entered_next (origin_of a o) (field_of f) xs ≡ map field_of (cond (is_some (asked_at o)) (f ∷ ys) ys)
enters_next code.Book a f xs ys e = e
enters_next (code.Entered k) a f xs ys e = ap (λ xs. field_of f ∷ xs) e
enters_next (code.Worked k) a f xs ys e = e

pub entered_are : (fields : List Field) → entered_of (map field_of fields) ≡ map field_of (filter (λ f. is_some (asked_in f)) fields)
entered_are [] = refl
entered_are (f ∷ fs) = rw (origin_is f) (enters_next (origin_in f.sort) f.start f (entered_of (map field_of fs)) (filter (λ f. is_some (asked_in f)) fs) (entered_are fs))

-- each value after what is asked for, with its place from 0
abbrev pub placed : List Field → List Value → List (ℕ × (Asked × Value))
placed fields values = enumerate_from 0 (zip (filter_map asked_in fields) values)

-- what the first value that does not suit is refused with
module _ (pool : List ℕ) where
  abbrev pub refused_at : ℕ × (Asked × Value) → Option Refusal
  refused_at p = unless (suits pool (asks_for p.1.0) p.1.1) (refusal 31 (p.0 + 1) 0)

  abbrev pub refused : List (ℕ × (Asked × Value)) → Option Refusal
  refused [] = None
  refused (p ∷ ps) = option_or (refused_at p) (refused ps)

  refused_from : (n : ℕ) (xs : List Asked) (vs : List Value) → refused (enumerate_from n (zip xs vs)) ≡ value_fault (first_other (n + 1) (map (suits pool) (map asks_for xs)) vs)
  refused_from n [] vs = refl
  refused_from n (x ∷ xs) [] = refl
  refused_from n (x ∷ xs) (v ∷ vs) =
      elim (suits pool (asks_for x) v) as (λ b. option_or (unless b (refusal 31 (n + 1) 0)) (refused (enumerate_from (n + 1) (zip xs vs))) ≡ value_fault (cond b (first_other (n + 1 + 1) (map (suits pool) (map asks_for xs)) vs) (Some (n + 1)))) [
        | true ↦ refused_from (n + 1) xs vs
        | false ↦ refl
      ]

  pub refused_is : (fields : List Field) (values : List Value) → refused (placed fields values) ≡ value_fault (first_other 1 (map (suits pool) (asked_by fields)) values)
  refused_is fields values = rw (asks_are fields) (refused_from 0 (filter_map asked_in fields) values)

  pub refused_next : (ps : List (ℕ × (Asked × Value))) (n : ℕ) (p : ℕ × (Asked × Value)) → (n < length ps) × (p ≡ get_or ps n p) → (o : Option Refusal) → o ≡ refused_at p → option_or o (refused (drop (n + 1) ps)) ≡ refused (drop n ps)
  refused_next ps n p at o e = ap (λ o. option_or o (refused (drop (n + 1) ps))) (e ∙ ap refused_at at.1) ∙ sym (at_drop_more refused ps n p at.0)
