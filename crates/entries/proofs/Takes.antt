-- The field of a value, and what it holds.
use Rattle.std.proofs.Common.{◌≡◌, ℕ, ◌-◌, ◌<◌, ◌≤◌, min, true, false, ◌&&◌, eqb, ltb, leb, List, [], ◌∷◌, map, length, get_or, Some, None, Ok, Err, Option, sym, refl, ap, ◌∙◌, subst, ⊎_elim, arith}
use Rattle.std.specs.List.{slice_get, filter}
use Rattle.std.specs.Option.{SomeIff, is_some, ok_or as some_or, option_map, option_and_then}
use Rattle.std.specs.Result.{MatchResult}
use Rattle.std.proofs.lemmas.List.{length-map, get_or-map}
use Rattle.std.proofs.lemmas.Option.{same_Some, slice_get-map, slice_get_cases, get_or_from_slice_get}
use Rattle.std.proofs.lemmas.Bool.{cases_Bool, and_from, ltb-true, lt-ltb, le-leb, lt-leb, eq-eqb}
use Rattle.refusals.specs.declared.entry.ValueFault.{ValueFault}
use Rattle.refusals.specs.Refusals.{refusal, of_value}
use Rattle.refusals.specs.Faults.{in_row, unless, first_some, ok_or, answer}
use Rattle.fields.specs.Field as s
use Rattle.fields.specs.Meaning.{field_of}
use Rattle.fields.specs.declared.field.Field.{Field}
use Rattle.layouts.specs.Layout.{Layout, no_field}
use Rattle.layouts.specs.Lawful.{Lawful}
use Rattle.entries.specs.Asked.{asked_in}
use Rattle.entries.proofs.Asking.{entered_are}
use Rattle.records.specs.Cells as c
use Rattle.records.specs.Held.{cell_in, cells_in, fields_fault}
use Rattle.records.specs.Row.{fields_of, origins_of, mark10, mark_of, entry_of, row_faults, take_value}
use Rattle.entries.specs.Taking.{entered_next, entered_of, Holds}
use Rattle.records.proofs.Options.{some_none, AllNone, none_all, all_none, answers, no_fault, true_unless}
use Rattle.records.proofs.Judged.{fault_held, cells_good, held_shaped}
use Rattle.records.proofs.Cells.{Shape, Shaped}

-- the field at a place among those that an entry has values for
module _ (fields : List Field) (n : ℕ) where
  abbrev pub Found : Field → Type 0
  Found f = (0 < n) × (n ≤ length (entered_of (map field_of fields))) × (field_of f ≡ get_or (entered_of (map field_of fields)) (n - 1) no_field)

  abbrev pub Past : ValueFault → Type 0
  Past e = (of_value e ≡ refusal 31 n 0) × (0 < n → length (entered_of (map field_of fields)) < n)

  found_at : (ys : List Field) (i : ℕ) → entered_of (map field_of fields) ≡ map field_of ys → 1 ≤ n → i ≡ n - 1 → MatchResult (some_or (slice_get ys i) (record { number = n })) Found Past
  found_at ys i are low is =
      let long : length (entered_of (map field_of fields)) ≡ length ys = ap length are ∙ length-map ys field_of in
      ⊎_elim
      (λ h. rw h.2 (
        omega arith,
        omega (arith, h.1),
        rw (are, ← is) (sym (get_or_from_slice_get (map field_of ys) i (field_of h.0) no_field (slice_get-map field_of ys i ∙ ap (option_map field_of) h.2))),
      ))
      (λ h. rw h.1 (refl, λ _. omega (arith, h.0)))
      (slice_get_cases ys i).1

  pub found_entered : (k : Option ℕ) → SomeIff k (1 ≤ n) (n - 1) → MatchResult (some_or (option_and_then (λ i. slice_get (filter (λ f. is_some (asked_in f)) fields) i) k) (record { number = n })) Found Past
  found_entered None h = (refl, λ p. absurd (h (omega arith)))
  found_entered (Some i) h = found_at (filter (λ f. is_some (asked_in f)) fields) i (entered_are fields) h.0 h.1

-- a number that is 0 or past the last is not within
not_within : (n k : ℕ) → (0 < n → k < n) → ltb 0 n && leb n k ≡ false
not_within n k h =
    ⊎_elim
    (λ t. rw t (lt-leb n k (h (ltb-true 0 n t))))
    (λ f. rw f refl)
    (cases_Bool (ltb 0 n))

-- the values of an entry, gathered and looked up
values_next : (o : c.Origin) (f : s.Field) (x : s.Cell) (os : List c.Origin) (xs : List s.Cell) (fs : List s.Field) (row : List ℕ) → Shape o x → x ≡ cell_in f row → map Some (c.values_in os xs) ≡ map (λ f. cell_in f row) fs → map Some (c.values_in (o ∷ os) (x ∷ xs)) ≡ map (λ f. cell_in f row) (entered_next o f fs)
values_next c.of_book f x os xs fs row h is e = e
values_next (c.entered p) f None os xs fs row h is e = absurd h
values_next (c.entered p) f (Some v) os xs fs row h is e = ap (λ x. x ∷ map Some (c.values_in os xs)) is ∙ ap (λ l. cell_in f row ∷ l) e
values_next (c.reckoned a k) f x os xs fs row h is e = e

values_in_lem : (fs : List s.Field) (row : List ℕ) → Shaped (c.origins fs) (cells_in fs row) → map Some (c.values_in (c.origins fs) (cells_in fs row)) ≡ map (λ f. cell_in f row) (entered_of fs)
values_in_lem [] row h = refl
values_in_lem (f ∷ fs) row h = values_next (c.origin f) f (cell_in f row) (c.origins fs) (cells_in fs row) (entered_of fs) row h.0 refl (values_in_lem fs row h.1)

-- the entry of a good row has the values that its fields hold
held_values : (l : Layout) (law : Lawful l) (row : List ℕ) (len : length row ≡ 750) (known : mark10 l (mark_of row) ≡ None) (good : fields_fault (fields_of l (mark_of row)) row ≡ None) → map Some (entry_of l row).values ≡ map (λ f. cell_in f row) (entered_of (fields_of l (mark_of row)))
held_values l law row len known good =
    ap (λ x. map Some (c.values_in (origins_of l (mark_of row)) (ok_or [] x))) (cells_good l law row len known good)
    ∙ values_in_lem (fields_of l (mark_of row)) row (held_shaped l law row len known good)

-- three checks, one after the other
module _ {A F : Type 0} (x : A) where
  at_third : (a b : Option F) (c : F) → a ≡ None → b ≡ None → answer (first_some (a ∷ (b ∷ (Some c ∷ [])))) x ≡ Err c
  at_third None None c p q = refl
  at_third None (Some y) c p q = some_none q
  at_third (Some y) b c p q = some_none p

module _ (l : Layout) (row : List ℕ) (len : length row ≡ 750) (n : ℕ) where
  long : unless (eqb (length row) 750) (refusal 1 (min (length row) 750) 0) ≡ None
  long = true_unless _ _ (eq-eqb (length row) 750 len)

  -- a good row, whose fields are fs
  module _ (law : Lawful l) (good : None ≡ in_row 0 (first_some (row_faults l row))) (fs : List s.Field) (is : fs ≡ fields_of l (mark_of row)) where
    clear : AllNone (row_faults l row)
    clear = none_all (row_faults l row) (no_fault 0 _ (sym good))

    values_are : map Some (entry_of l row).values ≡ map (λ f. cell_in f row) (entered_of fs)
    values_are = held_values l law row len clear.0 (sym (fault_held l law row clear.0) ∙ clear.1.0) ∙ ap (λ fs. map (λ f. cell_in f row) (entered_of fs)) (sym is)

    as_many : length (entry_of l row).values ≡ length (entered_of fs)
    as_many = sym (length-map (entry_of l row).values Some) ∙ ap length values_are ∙ length-map (entered_of fs) (λ f. cell_in f row)

    pub take_past : (0 < n → length (entered_of fs) < n) → take_value l row n ≡ Err (refusal 31 n 0)
    take_past h =
        ap (λ b. answer (first_some (unless (eqb (length row) 750) (refusal 1 (min (length row) 750) 0) ∷ (in_row 0 (first_some (row_faults l row)) ∷ (unless b (refusal 31 n 0) ∷ [])))) (get_or (entry_of l row).values (n - 1) (s.num 0)))
        (not_within n (length (entry_of l row).values) (λ p. rw as_many (h p)))
        ∙ at_third (get_or (entry_of l row).values (n - 1) (s.num 0)) _ _ (refusal 31 n 0) long (sym good)

    module _ (more : 0 < n) (most : n ≤ length (entered_of fs)) (f : s.Field) (at : f ≡ get_or (entered_of fs) (n - 1) no_field) where
      held : Some (get_or (entry_of l row).values (n - 1) (s.num 0)) ≡ cell_in f row
      held =
          let below : n - 1 < length (entered_of fs) = omega arith in
          let under : n - 1 < length (entry_of l row).values = omega (arith, as_many) in
          sym (get_or-map Some (entry_of l row).values (n - 1) (s.num 0) None under)
          ∙ ap (λ cs. get_or cs (n - 1) None) values_are
          ∙ get_or-map (λ f. cell_in f row) (entered_of fs) (n - 1) no_field None below
          ∙ ap (λ f. cell_in f row) (sym at)

      pub take_held : Holds (cell_in f row)
      take_held = subst Holds held tt

      pub take_value_lem : (v : s.Value) → Some v ≡ cell_in f row → take_value l row n ≡ Ok v
      take_value_lem v e =
          let b : ltb 0 n && leb n (length (entry_of l row).values) ≡ true = and_from (ltb 0 n) (leb n (length (entry_of l row).values)) (lt-ltb 0 n more) (le-leb n (length (entry_of l row).values) (omega (arith, as_many))) in
          let checks = unless (eqb (length row) 750) (refusal 1 (min (length row) 750) 0) ∷ (in_row 0 (first_some (row_faults l row)) ∷ (unless (ltb 0 n && leb n (length (entry_of l row).values)) (refusal 31 n 0) ∷ [])) in
          answers (first_some checks) _ v
          (all_none checks (long, (sym good, (true_unless _ _ b, tt))))
          (same_Some _ v (held ∙ sym e))
