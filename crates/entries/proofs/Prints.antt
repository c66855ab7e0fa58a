-- The turns of the loop that prints an entry's fields.
use Rattle.std.proofs.Common.{◌≡◌, ℕ, ◌+◌, ◌-◌, ◌<◌, ◌≤◌, Bool, true, false, cond, eqb, List, [], ◌∷◌, ◌++◌, map, length, get_or, take, drop, Some, None, Ok, Err, Option, Result, sym, refl, ap, ◌∙◌, ⊎_elim, append_assoc, arith, length-append}
use Rattle.std.proofs.lemmas.List.{drop_more, length-drop, length-take-le, take_at, length-map}
use Rattle.std.proofs.lemmas.Bool.{and_parts, cases_Bool, eqb-true}
use Rattle.refusals.specs.declared.table.Refusal.{Refusal}
use Rattle.refusals.specs.Faults.{Fault, in_row, and_then, fault_in}
use Rattle.fields.specs.Field as s
use Rattle.fields.specs.InRow.{at_field, part, WrittenAs}
use Rattle.fields.specs.Meaning.{field_of}
use Rattle.fields.specs.declared.field.Field.{Field}
use Rattle.fields.proofs.Fields.{field_law}
use Rattle.layouts.specs.Lawful.{Covers}
use Rattle.records.specs.declared.entries.Value.{Value}
use Rattle.records.specs.Cells.{Origin, of_book, entered, reckoned, origin, origins, cells, write_cells, sorts_asked, first_other, wrong_value}
use Rattle.entries.specs.Asked.{asked_by}
use Rattle.records.specs.Entries.{value_of, inside, suits}
use Rattle.entries.specs.Printing.{cell_for, rest_after, Ready, print_fields}
use Rattle.records.specs.Worked.{reckoned_by}
use Rattle.records.proofs.Options.{some_none, ok_at}
use Rattle.records.proofs.Cells.{widths}
use Rattle.records.proofs.Law.{widths_cover}

-- an answer that is refused stays so
refused_through : {A B C : Type 0} (n : ℕ) (x : Refusal) (r : Result A Fault) (g : A → Result B Fault) (h : B → Result C Fault) → Some x ≡ in_row n (fault_in r) → Some x ≡ in_row n (fault_in (and_then (and_then r g) h))
refused_through n x (Ok y) g h e = some_none e
refused_through n x (Err f) g h e = e

-- bytes that are joined to the front one by one
joined_twice : (front b : List ℕ) (r : Result (List ℕ) Fault) → and_then (and_then r (λ bs. Ok (b ++ bs))) (λ bs. Ok (front ++ bs)) ≡ and_then r (λ bs. Ok ((front ++ b) ++ bs))
joined_twice front b (Ok bs) = ap Ok (sym (append_assoc front b bs))
joined_twice front b (Err f) = refl

ok_front : (x : Result (List ℕ) Fault) → x ≡ and_then x (λ bs. Ok ([] ++ bs))
ok_front (Ok bs) = refl
ok_front (Err f) = refl

no_other : (b : Bool) (n : ℕ) (o : Option ℕ) → cond b o (Some n) ≡ None → (b ≡ true) × (o ≡ None)
no_other true n o e = (refl, e)
no_other false n o e = some_none e

module _ (pool : List ℕ) where
  -- each value suits the test in its place, and none is left over
  abbrev pub Fit : List (s.Value → Bool) → List Value → Type 0
  Fit [] [] = Unit {0}
  Fit [] (v ∷ vs) = ⊥
  Fit (p ∷ ps) [] = ⊥
  Fit (p ∷ ps) (v ∷ vs) = (suits pool p v ≡ true) × Fit ps vs

  fit_from : (n : ℕ) (ps : List (s.Value → Bool)) (vs : List Value) → length ps ≡ length vs → first_other n (map (suits pool) ps) vs ≡ None → Fit ps vs
  fit_from n [] [] e h = tt
  fit_from n [] (v ∷ vs) e h = absurd (omega arith)
  fit_from n (p ∷ ps) [] e h = absurd (omega arith)
  fit_from n (p ∷ ps) (v ∷ vs) e h = let o = no_other (suits pool p v) n _ h in (o.0, fit_from (n + 1) ps vs (omega arith) o.1)

  all_fit : (ps : List (s.Value → Bool)) (vs : List Value) → wrong_value (map (suits pool) ps) vs ≡ None → Fit ps vs
  all_fit ps vs h =
      let len = length-map ps (suits pool) in
      ⊎_elim
      (λ t. fit_from 1 ps vs (sym len ∙ eqb-true (length (map (suits pool) ps)) (length vs) t) (rw t at h))
      (λ f. some_none (rw f at h))
      (cases_Bool (eqb (length (map (suits pool) ps)) (length vs)))

  fit_next : (o : Origin) (os : List Origin) (vs : List Value) → Fit (sorts_asked (o ∷ os)) vs → Ready pool vs o × Fit (sorts_asked os) (rest_after vs o)
  fit_next of_book os vs h = (tt, h)
  fit_next (entered q) os [] h = absurd h
  fit_next (entered q) os (v ∷ vs) h = ((and_parts (q (value_of pool v)) (inside pool v) h.0).1, h.1)
  fit_next (reckoned a k) os vs h = (tt, h)

  module _ (r : s.Working → ℕ) where
    -- the first field set apart
    set_apart : (o : Origin) (os : List Origin) (f : s.Field) (fs : List s.Field) (vs : List Value) → Ready pool vs o →
        write_cells (f ∷ fs) (cells (o ∷ os) (map (value_of pool) vs) (reckoned_by r (o ∷ os)))
        ≡ and_then (at_field f (s.write_field f (cell_for pool r vs o))) (λ b. and_then (write_cells fs (cells os (map (value_of pool) (rest_after vs o)) (reckoned_by r os))) (λ bs. Ok (b ++ bs)))
    set_apart of_book os f fs vs h = refl
    set_apart (entered q) os f fs [] h = absurd h
    set_apart (entered q) os f fs (v ∷ vs) h = refl
    set_apart (reckoned a k) os f fs vs h = refl

    module _ (whole : Result (List ℕ) Fault) where
      -- what is left of the whole are these fields, from this position on, with these values
      pub record Printing (fields : List Field) (values : List Value) (row : List ℕ) : Type 0 where
        pub from : ℕ
        pub first : 1 ≤ from
        pub covers : Covers from (map field_of fields)
        pub long : length row ≡ 750
        pub fit : Fit (asked_by fields) values
        pub sofar : whole ≡ and_then (print_fields pool r fields values) (λ bs. Ok (take (from - 1) row ++ bs))

      pub printing_at : (fields : List Field) (i : ℕ) (d : Field) (values : List Value) (row : List ℕ) → i < length fields → Printing (drop i fields) values row → Printing (get_or fields i d ∷ drop (i + 1) fields) values row
      printing_at fields i d values row l p = rw (drop_more fields i d l) at p

      module _ (f : Field) (fields : List Field) (values : List Value) (row : List ℕ) (p : Printing (f ∷ fields) values row) where
        pub printing_ready : Ready pool values (origin (field_of f))
        printing_ready = (fit_next (origin (field_of f)) (origins (map field_of fields)) values p.fit).0

        rest_is : print_fields pool r (f ∷ fields) values ≡ and_then (at_field (field_of f) (s.write_field (field_of f) (cell_for pool r values (origin (field_of f))))) (λ b. and_then (print_fields pool r fields (rest_after values (origin (field_of f)))) (λ bs. Ok (b ++ bs)))
        rest_is = set_apart (origin (field_of f)) (origins (map field_of fields)) (field_of f) (map field_of fields) values printing_ready

        module _ (c : s.Cell) (is : c ≡ cell_for pool r values (origin (field_of f))) where
          pub printing_refused : (n : ℕ) (x : Refusal) → Some x ≡ in_row n (fault_in (at_field (field_of f) (s.write_field (field_of f) c))) → Some x ≡ in_row n (fault_in whole)
          printing_refused n x e =
              refused_through n x _ _ (λ bs. Ok (take (p.from - 1) row ++ bs)) (rw is at e)
              ∙ ap (λ y. in_row n (fault_in (and_then y (λ bs. Ok (take (p.from - 1) row ++ bs))))) (sym rest_is)
              ∙ ap (λ y. in_row n (fault_in y)) (sym p.sofar)

          pub printing_next : (rest : List Value) (row' : List ℕ) → rest ≡ rest_after values (origin (field_of f)) → WrittenAs (field_of f) row row' c → Printing fields rest row'
          printing_next rest row' same w =
              let g = field_of f in
              let b = part g row' in
              let start : g.start ≡ p.from = p.covers.0 in
              let low : p.from + g.width + widths (map field_of fields) ≡ 751 = widths_cover (p.from + g.width) (map field_of fields) p.covers.1 in
              let first = p.first in
              let long = p.long in
              let wide : length b ≡ g.width = ((field_law g b c).1 w.written).0 in
              let a = take (p.from - 1) row in
              let la : length a ≡ p.from - 1 = length-take-le (p.from - 1) row (omega arith) in
              let lab : length (a ++ b) ≡ p.from + g.width - 1 = length-append a b ∙ omega arith in
              let after = drop (p.from - 1 + g.width) row in
              let is_row : row' ≡ (a ++ b) ++ after = w.framed ∙ ap (λ q. take (q - 1) row ++ (b ++ drop (q - 1 + g.width) row)) start ∙ sym (append_assoc a b after) in
              let front : take (p.from + g.width - 1) row' ≡ a ++ b = ap (take (p.from + g.width - 1)) is_row ∙ take_at (a ++ b) after (p.from + g.width - 1) lab in
              let written : at_field g (s.write_field g (cell_for pool r values (origin g))) ≡ Ok b = ok_at g _ b (rw is at w.written) in
              let more = print_fields pool r fields (rest_after values (origin g)) in
              let step : print_fields pool r (f ∷ fields) values ≡ and_then more (λ bs. Ok (b ++ bs)) = rest_is ∙ ap (λ x. and_then x (λ b. and_then more (λ bs. Ok (b ++ bs)))) written in
              rw same
              (record {
                from = p.from + g.width;
                first = omega arith;
                covers = p.covers.1;
                long = ap length is_row ∙ length-append (a ++ b) after ∙ omega (arith, lab, length-drop (p.from - 1 + g.width) row, low);
                fit = (fit_next (origin g) (origins (map field_of fields)) values p.fit).1;
                sofar = p.sofar ∙ ap (λ x. and_then x (λ bs. Ok (a ++ bs))) step ∙ joined_twice a b more ∙ ap (λ t. and_then more (λ bs. Ok (t ++ bs))) (sym front);
              })

    pub printing_none : (fields : List Field) (values : List Value) (row : List ℕ) → length row ≡ 750 → Covers 1 (map field_of fields) → wrong_value (map (suits pool) (asked_by fields)) values ≡ None → Printing (print_fields pool r fields values) fields values row
    printing_none fields values row long covers valued = record {
      from = 1;
      first = omega arith;
      covers = covers;
      long = long;
      fit = all_fit (asked_by fields) values valued;
      sofar = ok_front (print_fields pool r fields values);
    }
