-- Files that the check accepts and legal lists, one to one.
use Rattle.std.proofs.Common.{◌≡◌, ℕ, ◌^◌, ◌<◌, true, false, eqb, List, [], ◌∷◌, ◌++◌, map, length, None, Ok, sym, refl, ap, ◌∙◌, subst, append_assoc, append-nil, arith}
use Rattle.std.specs.List.{AllByRecursion}
use Rattle.std.proofs.lemmas.Grind.{common_steps}
use Rattle.std.proofs.lemmas.Bool.{ltb-true, eqb-true, ne_eqb, and_from, not_from_false, both_ways}
use Rattle.refusals.specs.Faults.{answer, unless, first_some}
use Rattle.fields.specs.Field.{any_of}
use Rattle.fields.proofs.Results.{then_ok, ok_then}
use Rattle.layouts.specs.Layout.{Layout, kind_of}
use Rattle.layouts.specs.Lawful.{Lawful, Apart}
use Rattle.records.specs.Row.{Entry, mark10, values31, mark_of, entry_of, row_faults}
use Rattle.records.proofs.Options.{none_all, all_none, no_fault, unless_true, true_unless, answered, answers}
use Rattle.records.proofs.Law.{lawful_kind}
use Rattle.legality.specs.Before.{last_of, sum_of, row_of, rows_after, rows_of}
use Rattle.legality.specs.Checks.{may_stand, row_checks, row_fault, Call, starts, adds, closes, asks, entry_fault}
use Rattle.legality.specs.File.{Onward, Legal, Accepted, accepted, closed, checked_after, checked, Whole, FileLaw}
use Rattle.legality.proofs.Place.{passed, enters, leaves}

pub last_push : (e : Entry) (es : List Entry) (x : Entry) → last_of e (es ++ x ∷ []) ≡ x
last_push e [] x = refl
last_push e (y ∷ ys) x = last_push y ys x

stands_after : (l : Layout) (before : List Entry) (e : Entry) (m : ℕ) → may_stand l (before ++ e ∷ []) m ≡ any_of (kind_of l m).after e.mark
stands_after l [] e m = refl
stands_after l (b ∷ bs) e m = ap (λ x. any_of (kind_of l m).after x.mark) (last_push b bs e)

pub closed_push : (l : Layout) (before : List Entry) (e : Entry) → closed l (before ++ e ∷ []) ≡ eqb e.mark l.trailer
closed_push l [] e = refl
closed_push l (b ∷ bs) e = ap (λ x. eqb x.mark l.trailer) (last_push b bs e)

apart : (t x : ℕ) (ms : List ℕ) → AllByRecursion (λ m. Apart m t) ms → any_of ms x ≡ true → Apart x t
apart t x [] h e is = absurd (cc)
apart t x (m ∷ ms) h e is = grind (arith, common_steps, h.0, λ (n : any_of ms x ≡ true). apart t x ms h.1 n is)

module _ (l : Layout) (law : Lawful l) where
  -- one step of the check
  step : (before : List Entry) (row : List ℕ) (rows : List (List ℕ)) (a : Accepted) → checked_after l before (row ∷ rows) ≡ Ok a → (row_fault l before row ≡ None) × (checked_after l (before ++ entry_of l row ∷ []) rows ≡ Ok a)
  step before row rows a h =
      let p = then_ok (answer (row_fault l before row) (entry_of l row)) _ a h in
      let q = answered (row_fault l before row) (entry_of l row) p.0 p.1 in
      (q.0, subst (λ e. checked_after l (before ++ e ∷ []) rows ≡ Ok a) (sym q.1) p.2)

  stands : (before : List Entry) (row : List ℕ) → row_fault l before row ≡ None → (mark10 l (mark_of row) ≡ None) × (may_stand l before (mark_of row) ≡ true)
  stands before row h = let n = none_all (row_checks l before row) (no_fault _ _ h) in (n.1.0, unless_true _ _ n.1.1.0)

  ends : (before : List Entry) (e : Entry) (a : Accepted) → checked_after l (before ++ e ∷ []) [] ≡ Ok a → eqb e.mark l.trailer ≡ true
  ends before e a h = sym (closed_push l before e) ∙ unless_true _ _ (answered (unless (closed l (before ++ e ∷ [])) _) _ a h).0

  rows_back : (rows : List (List ℕ)) (before : List Entry) (a : Accepted) → Whole rows → checked_after l before rows ≡ Ok a →
      (rows_after l before (map (entry_of l) rows) ≡ rows) × (a ≡ accepted l (before ++ map (entry_of l) rows))
  rows_back [] before a w h = (refl, sym (answered (unless (closed l before) _) (accepted l before) a h).1 ∙ ap (accepted l) (sym (append-nil before)))
  rows_back (row ∷ rows) before a w h =
      let s = step before row rows a h in
      let e = entry_of l row in
      let here = (enters l law before row w.0 s.0).0 in
      let rest = rows_back rows (before ++ e ∷ []) a w.1 s.1 in
      (rw (here, rest.0), rw (append_assoc before (e ∷ []) (map (entry_of l) rows)) at rest.1)

  not_header : (b : Entry) (bs : List Entry) (m : ℕ) → may_stand l (b ∷ bs) m ≡ true → eqb m l.header ≡ false
  not_header b bs m h = ne_eqb m l.header (λ is. let none : any_of [] (last_of b bs).mark ≡ true = rw (is, law.header.1) at h in both_ways false refl none)

  onward_back : (row : List ℕ) (rows : List (List ℕ)) (b : Entry) (bs : List Entry) (a : Accepted) → Whole (row ∷ rows) → checked_after l (b ∷ bs) (row ∷ rows) ≡ Ok a → Onward l (b ∷ bs) (map (entry_of l) (row ∷ rows))
  onward_back row [] b bs a w h =
      let s = step (b ∷ bs) row [] a h in
      (enters l law (b ∷ bs) row w.0 s.0).1 closes (ends (b ∷ bs) (entry_of l row) a s.1)
  onward_back row (next ∷ rows) b bs a w h =
      let s = step (b ∷ bs) row (next ∷ rows) a h in
      let e = entry_of l row in
      let t = step (b ∷ (bs ++ e ∷ [])) next rows a s.1 in
      let now = stands (b ∷ bs) row s.0 in
      let then = stands (b ∷ (bs ++ e ∷ [])) next t.0 in
      let no-trailer = apart l.trailer e.mark (kind_of l (mark_of next)).after (lawful_kind l law (mark_of next) then.0).0.after (sym (stands_after l (b ∷ bs) e (mark_of next)) ∙ then.1) in
      let adding : asks l adds e.mark ≡ true = and_from _ _ (not_from_false _ (not_header b bs e.mark now.1)) (not_from_false _ (ne_eqb e.mark l.trailer no-trailer)) in
      ((enters l law (b ∷ bs) row w.0 s.0).1 adds adding, onward_back next rows b (bs ++ e ∷ []) a w.1 s.1)

  legal_back : (rows : List (List ℕ)) (a : Accepted) → Whole rows → checked l rows ≡ Ok a → Legal l (map (entry_of l) rows)
  legal_back [] a w h = both_ways false refl (unless_true _ _ (answered (unless (closed l []) _) (accepted l []) a h).0)
  legal_back (row ∷ []) a w h =
      let s = step [] row [] a h in
      let first = eqb-true (mark_of row) l.header (stands [] row s.0).1 in
      let last = eqb-true (mark_of row) l.trailer (ends [] (entry_of l row) a s.1) in
      absurd (law.trailer.1 (sym first ∙ last))
  legal_back (row ∷ (next ∷ rows)) a w h =
      let s = step [] row (next ∷ rows) a h in
      ((enters l law [] row w.0 s.0).1 starts (stands [] row s.0).1, onward_back next rows (entry_of l row) [] a w.1 s.1)

  -- a legal list sums up to an amount
  onward_sum : (es before : List Entry) → Onward l before es → sum_of l (before ++ es) < 10 ^ 17
  onward_sum [] before h = absurd h
  onward_sum (e ∷ []) before h = let p = passed l before closes e (values31 l e) h in ltb-true (sum_of l (before ++ e ∷ [])) (10 ^ 17) (unless_true _ _ p.0.sum)
  onward_sum (e ∷ (x ∷ xs)) before h = rw append_assoc at (onward_sum (x ∷ xs) (before ++ e ∷ []) h.1)

  pub legal_sum : (es : List Entry) → Legal l es → sum_of l es < 10 ^ 17
  legal_sum [] h = absurd h
  legal_sum (e ∷ es) h = onward_sum es (e ∷ []) h.1

  -- a row that take reads
  abbrev pub Sound : List ℕ → Type 0
  Sound row = (length row ≡ 750) × (first_some (row_faults l row) ≡ None)

  pub whole : (rows : List (List ℕ)) → AllByRecursion Sound rows → Whole rows
  whole [] h = tt
  whole (row ∷ rows) h = (h.0.0, whole rows h.1)

  -- an entry that passes, and then what follows it
  takes : (before : List Entry) (c : Call) (e : Entry) (rows : List (List ℕ)) (a : Accepted) → entry_fault l before c e ≡ None → checked_after l (before ++ e ∷ []) rows ≡ Ok a → checked_after l before (row_of l before e ∷ rows) ≡ Ok a
  takes before c e rows a h rest =
      let p = passed l before c e (values31 l e) h in
      let q = leaves l law before c e p.0 p.1 in
      ok_then (answer (row_fault l before (row_of l before e)) (entry_of l (row_of l before e))) _ e a (answers (row_fault l before (row_of l before e)) _ e q.2 q.1) rest

  pub shows : (before : List Entry) (c : Call) (e : Entry) → entry_fault l before c e ≡ None → Sound (row_of l before e) × (entry_of l (row_of l before e) ≡ e)
  shows before c e h =
      let p = passed l before c e (values31 l e) h in
      let q = leaves l law before c e p.0 p.1 in
      let row = row_of l before e in
      let n = none_all (row_checks l before row) (no_fault _ _ q.2) in
      ((q.0, all_none (row_faults l row) (n.1.0, (n.1.1.1.1.0, (n.1.1.1.1.1.0, tt)))), q.1)

  onward : (es : List Entry) (before : List Entry) → Onward l before es → checked_after l before (rows_after l before es) ≡ Ok (accepted l (before ++ es))
  onward [] before h = absurd h
  onward (e ∷ []) before h =
      let p = passed l before closes e (values31 l e) h in
      takes before closes e [] _ h (answers (unless (closed l (before ++ e ∷ [])) _) _ _ (true_unless _ _ (closed_push l before e ∙ p.0.asked)) refl)
  onward (e ∷ (x ∷ xs)) before h =
      takes before adds e (rows_after l (before ++ e ∷ []) (x ∷ xs)) _ h.0 (onward (x ∷ xs) (before ++ e ∷ []) h.1 ∙ ap (λ y. Ok (accepted l y)) (append_assoc before (e ∷ []) (x ∷ xs)))

  onward_shows : (es : List Entry) (before : List Entry) → Onward l before es → AllByRecursion Sound (rows_after l before es) × (map (entry_of l) (rows_after l before es) ≡ es)
  onward_shows [] before h = absurd h
  onward_shows (e ∷ []) before h = let s = shows before closes e h in ((s.0, tt), ap (λ x. x ∷ []) s.1)
  onward_shows (e ∷ (x ∷ xs)) before h =
      let s = shows before adds e h.0 in
      let r = onward_shows (x ∷ xs) (before ++ e ∷ []) h.1 in
      ((s.0, r.0), rw (s.1, r.1))

  pub legal_shows : (es : List Entry) → Legal l es → AllByRecursion Sound (rows_of l es) × (map (entry_of l) (rows_of l es) ≡ es)
  legal_shows [] h = absurd h
  legal_shows (e ∷ es) h =
      let s = shows [] starts e h.0 in
      let r = onward_shows es (e ∷ []) h.1 in
      ((s.0, r.0), rw (s.1, r.1))

  legal_passes : (es : List Entry) → Legal l es → checked l (rows_of l es) ≡ Ok (accepted l es)
  legal_passes [] h = absurd h
  legal_passes (e ∷ es) h = takes [] starts e (rows_after l (e ∷ []) es) _ h.0 (onward es (e ∷ []) h.1)

  pub file_law : FileLaw l
  file_law = record {
    backed = λ rows a w h. let r = rows_back rows [] a w h in (map (entry_of l) rows, legal_back rows a w h, r.0, r.1);
    passes = λ es h. (whole (rows_of l es) (legal_shows es h).0, legal_passes es h);
    alone = λ es fs h k e. sym (legal_shows es h).1 ∙ ap (map (entry_of l)) e ∙ (legal_shows fs k).1;
  }
