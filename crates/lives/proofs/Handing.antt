-- Values as they are handed in, and the values that they mean.
use Rattle.std.proofs.Common.{◌≡◌, ℕ, ◌+◌, ◌<◌, Bool, true, ltb, List, [], ◌∷◌, map, length, None, sym, refl, ◌∙◌, arith}
use Rattle.std.specs.List.{AllByRecursion}
use Rattle.std.proofs.lemmas.List.{length-map}
use Rattle.std.proofs.lemmas.Grind.{common_steps}
use Rattle.std.proofs.lemmas.Bool.{eq-eqb, lt-ltb}
use Rattle.refusals.specs.Refusals.{refusal}
use Rattle.refusals.specs.Faults.{unless}
use Rattle.fields.specs.Field.{Value}
use Rattle.layouts.specs.Layout.{Layout}
use Rattle.records.specs.Cells.{sorts_asked, first_other, wrong_value}
use Rattle.records.specs.Row.{Entry, origins_of, values31}
use Rattle.records.proofs.Options.{all_none, true_unless}
use Rattle.legality.specs.Checks.{Call, checks_with, entry_fault}
use Rattle.legality.proofs.Place.{passed, passes}
use Rattle.records.specs.Entries.{Handed, value_of, meant, inside, suits, handed31}
use Rattle.records.specs.declared.entries.Value.{Value as Given}
use Rattle.lives.specs.Draft.{Moment, allows, judged}
use Rattle.lives.specs.Life.{Inside}

wrong_parts : {V : Type 0} (ps : List (V → Bool)) (vs : List V) → wrong_value ps vs ≡ None → (length ps ≡ length vs) × (first_other 1 ps vs ≡ None)
wrong_parts ps vs h = (grind (arith, common_steps), grind (arith, common_steps))

none_wrong : {V : Type 0} (ps : List (V → Bool)) (vs : List V) → length ps ≡ length vs → first_other 1 ps vs ≡ None → wrong_value ps vs ≡ None
none_wrong ps vs l h = rw (eq-eqb (length ps) (length vs) l) h

module _ (pool : List ℕ) where
  none_other : (n : ℕ) (ps : List (Value → Bool)) (gs : List Given) → first_other n (map (suits pool) ps) gs ≡ None → first_other n ps (map (value_of pool) gs) ≡ None
  none_other n [] gs h = refl
  none_other n (p ∷ ps) [] h = refl
  none_other n (p ∷ ps) (g ∷ gs) h = grind (arith, common_steps, none_other (n + 1) ps gs)

  other_none : (n : ℕ) (ps : List (Value → Bool)) (gs : List Given) → AllByRecursion (λ g. inside pool g ≡ true) gs → first_other n ps (map (value_of pool) gs) ≡ None → first_other n (map (suits pool) ps) gs ≡ None
  other_none n [] gs i h = refl
  other_none n (p ∷ ps) [] i h = refl
  other_none n (p ∷ ps) (g ∷ gs) i h = grind (arith, common_steps, i.0, other_none (n + 1) ps gs i.1)

module _ (l : Layout) (h : Handed) where
  pub means : handed31 l h ≡ None → values31 l (meant h) ≡ None
  means e =
      let ps = sorts_asked (origins_of l h.mark) in
      let p = wrong_parts (map (suits h.pool) ps) h.values e in
      none_wrong ps (map (value_of h.pool) h.values) (sym (length-map ps (suits h.pool)) ∙ p.0 ∙ sym (length-map h.values (value_of h.pool))) (none_other h.pool 1 ps h.values p.1)

  says : Inside h → values31 l (meant h) ≡ None → handed31 l h ≡ None
  says i e =
      let ps = sorts_asked (origins_of l h.mark) in
      let p = wrong_parts ps (map (value_of h.pool) h.values) e in
      none_wrong (map (suits h.pool) ps) h.values (length-map ps (suits h.pool) ∙ p.0 ∙ length-map h.values (value_of h.pool)) (other_none h.pool 1 ps h.values i p.1)

  -- what a call says of the entry that it means
  pub taken_passes : (before : List Entry) (c : Call) → checks_with (handed31 l h) l before c (meant h) ≡ None → entry_fault l before c (meant h) ≡ None
  taken_passes before c e = let p = passed l before c (meant h) (handed31 l h) e in passes l before c (meant h) (values31 l (meant h)) p.0 (means p.1)

  pub not_judged : (v : Moment) (c : Call) → allows v.state c ≡ true → entry_fault l v.entries c (meant h) ≡ None → Inside h → length v.rows < v.places → judged l v c h ≡ None
  not_judged v c a e i room =
      let p = passed l v.entries c (meant h) (values31 l (meant h)) e in
      all_none (unless (allows v.state c) (refusal 30 0 0) ∷ (checks_with (handed31 l h) l v.entries c (meant h) ∷ (unless (ltb (length v.rows) v.places) (refusal 2 v.places 0) ∷ [])))
      (true_unless _ _ a, (passes l v.entries c (meant h) (handed31 l h) p.0 (says i p.1), (true_unless _ _ (lt-ltb (length v.rows) v.places room), tt)))
