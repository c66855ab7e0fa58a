-- What each check of an admitted entry's row comes to, in the words of the entry.
use Rattle.std.proofs.Common.{◌≡◌, ℕ, ◌+◌, ◌^◌, ◌<◌, ◌≤◌, List, [], ◌∷◌, ◌++◌, length, Some, None, Ok, Option, sym, refl, ap, ◌∙◌, subst, arith}
use native.Mathlib.Nat.{pow-le-pow_right}
use Rattle.std.proofs.lemmas.Bool.{ltb-true}
use Rattle.refusals.specs.declared.table.Refusal.{Refusal}
use Rattle.refusals.specs.Faults.{Fault, in_row, first_some, fault_in, ok_or}
use Rattle.fields.specs.Field.{Working, number_of_row, number_of_owner, total, count}
use Rattle.layouts.specs.Layout.{Layout}
use Rattle.layouts.specs.Lawful.{Lawful, WorkedWide}
use Rattle.records.specs.declared.entries.Worked.{Worked}
use Rattle.records.specs.Row.{Entry, origins_of, mark10, values31, fields11, conditions15, print_row, entry_of, mark_of, row_faults}
use Rattle.records.specs.Entries.{Handed, meant, handed31, value_fault}
use Rattle.records.specs.Worked.{worked_of, reckoned_by}
use Rattle.records.proofs.Options.{some_none, in_none, no_fault, unless_true}
use Rattle.records.proofs.Law.{Printed, printed}
use Rattle.legality.specs.Before.{reckon, sum_of}
use Rattle.legality.specs.Checks.{owner22, sum26}
use Rattle.standings.specs.declared.next.NextRow.{NextRow}
use Rattle.standings.specs.Standing.{Good, IsRead}
use Rattle.legality.proofs.Reckoning.{reckon_fits}
use Rattle.lives.specs.Draft.{Moment}
use Rattle.drafts.specs.Standing.{contents, Ready, Fit}
use Rattle.lives.proofs.Handing.{means}
use Rattle.drafts.proofs.Stops.{here, skip}
use Rattle.drafts.proofs.Rows.{last, prints, judged_as, same_worked}

-- what stands in the worked fields at first fits every one of them
abbrev pub unworked : Worked
unworked = record { row_number = 0; owner_number = 0; total = 0; count = 0 }

some_digit : (w : ℕ) → 0 < 10 ^ w
some_digit w = let z : 0 ≤ w = omega arith in let p : 10 ^ 0 ≤ 10 ^ w = pow-le-pow_right {n = 10} (omega arith) z in omega (arith, p)

pub nothing_fits : (k : Working) (w : ℕ) → WorkedWide k w → worked_of unworked k < 10 ^ w
nothing_fits number_of_row w h = some_digit w
nothing_fits number_of_owner w h = some_digit w
nothing_fits total w h = some_digit w
nothing_fits count w h = some_digit w

module _ (l : Layout) (law : Lawful l) (v : Moment) (h : Handed) (n m : ℕ) (ready : Ready l v h n m) where
  valued : values31 l (meant h) ≡ None
  valued = means l h ready.valued

  -- what printing answers
  abbrev pub Prints : Option Refusal → (Working → ℕ) → Type 0
  Prints o r = o ≡ first_some (in_row n (mark10 l h.mark) ∷ (value_fault (handed31 l h) ∷ (in_row n (fault_in (print_row l (meant h) (reckoned_by r (origins_of l h.mark)))) ∷ [])))

  -- it refuses only the fields
  at_fields : (o : Option Refusal) (r : Working → ℕ) → ((k : Working) (w : ℕ) → WorkedWide k w → r k < 10 ^ w) →
      Prints o r → o ≡ in_row (length v.entries + 1) (fields11 l (meant h))
  at_fields o r small e =
      e ∙ last _ _ _ (in_none n _ ready.known) (ap value_fault ready.valued) ∙ ap (in_row n) (prints l law (meant h) ready.known valued r small) ∙ ap (λ k. in_row k (fields11 l (meant h))) ready.next

  module _ (ws row : List ℕ) (is : Printed l (meant h) ws row) where
    at_conditions : (o : Option Refusal) → o ≡ in_row n (first_some (row_faults l row)) → o ≡ in_row (length v.entries + 1) (conditions15 l (meant h))
    at_conditions o e = e ∙ ap (in_row n) (judged_as l law (meant h) ready.known valued ws row is) ∙ ap (λ k. in_row k (conditions15 l (meant h))) ready.next

    good_row : None ≡ in_row (length v.entries + 1) (conditions15 l (meant h)) → Good l row
    good_row e = record { long = is.long; sound = judged_as l law (meant h) ready.known valued ws row is ∙ no_fault _ _ (sym e) }

    marked : m ≡ mark_of row
    marked = ready.marked ∙ sym is.mark

    at_entry : (check : Entry → Option Fault) (o : Option Refusal) → o ≡ in_row n (check (entry_of l row)) → o ≡ in_row (length v.entries + 1) (check (meant h))
    at_entry check o e = e ∙ ap (λ x. in_row n (check x)) is.entry ∙ ap (λ k. in_row k (check (meant h))) ready.next

  -- the worked numbers of the entry's place fit their fields
  small : None ≡ in_row (length v.entries + 1) (sum26 l v.entries (meant h)) → (r : Working → ℕ) → ((k : Working) → r k ≡ reckon l v.entries (meant h) k) → (k : Working) (w : ℕ) → WorkedWide k w → r k < 10 ^ w
  small sum r same k w wide =
      let few : length v.entries + 1 ≤ 65535 = subst (λ x. x ≤ 65535) ready.next ready.few in
      let below : sum_of l (v.entries ++ meant h ∷ []) < 10 ^ 17 = ltb-true _ (10 ^ 17) (unless_true _ _ (no_fault _ _ (sym sum))) in
      subst (λ x. x < 10 ^ w) (sym (same k)) (reckon_fits l v.entries (meant h) few below k w wide)

  -- the steps of preparing, one after the other: where each stops, and what it leaves to the next
  pub stops_printing : (x : Refusal) → Prints (Some x) (worked_of unworked) → Some x ≡ first_some (contents l v h)
  stops_printing x e = here x _ _ (at_fields (Some x) (worked_of unworked) nothing_fits e)

  module _ (row : List ℕ) (prints : Prints None (worked_of unworked)) (is_printed : print_row l (meant h) (reckoned_by (worked_of unworked) (origins_of l h.mark)) ≡ Ok row) where
    is : Printed l (meant h) (reckoned_by (worked_of unworked) (origins_of l h.mark)) row
    is = printed l law (meant h) _ row ready.known is_printed

    fields : None ≡ in_row (length v.entries + 1) (fields11 l (meant h))
    fields = at_fields None (worked_of unworked) nothing_fits prints

    pub stops_judging : (x : Refusal) → Some x ≡ in_row n (first_some (row_faults l row)) → Some x ≡ first_some (contents l v h)
    stops_judging x e = skip _ _ _ fields (here x _ _ (at_conditions _ row is (Some x) e))

    module _ (judged : None ≡ in_row n (first_some (row_faults l row))) (next : NextRow) (kind : next.kind.mark ≡ m) (same : next.row.now ≡ row) where
      keeps : None ≡ in_row (length v.entries + 1) (conditions15 l (meant h))
      keeps = at_conditions _ row is None judged

      reads : IsRead l next
      reads = record { good = subst (Good l) (sym same) (good_row _ row is keeps); marked = kind ∙ marked _ row is ∙ ap mark_of (sym same) }

      pub stops_tying : (x : Refusal) → (IsRead l next → Some x ≡ in_row n (owner22 l v.entries (entry_of l row))) → Some x ≡ first_some (contents l v h)
      stops_tying x e = skip _ _ _ fields (skip _ _ _ keeps (here x _ _ (at_entry _ row is (owner22 l v.entries) (Some x) (e reads))))

      module _ (tied : IsRead l next → None ≡ in_row n (owner22 l v.entries (entry_of l row))) where
        owner : None ≡ in_row (length v.entries + 1) (owner22 l v.entries (meant h))
        owner = at_entry _ row is (owner22 l v.entries) None (tied reads)

        pub stops_summing : (x : Refusal) → (IsRead l next → Some x ≡ in_row n (sum26 l v.entries (entry_of l row))) → Some x ≡ first_some (contents l v h)
        stops_summing x e = skip _ _ _ fields (skip _ _ _ keeps (skip _ _ _ owner (here x _ _ (at_entry _ row is (sum26 l v.entries) (Some x) (e reads)))))

        module _ (added : IsRead l next → None ≡ in_row n (sum26 l v.entries (entry_of l row))) where
          below : None ≡ in_row (length v.entries + 1) (sum26 l v.entries (meant h))
          below = at_entry _ row is (sum26 l v.entries) None (added reads)

          pub all_pass : None ≡ first_some (contents l v h)
          all_pass = skip _ _ _ fields (skip _ _ _ keeps (skip _ _ _ owner (skip _ _ _ below refl)))

          -- the second print
          module _ (sum : ℕ) (sums : IsRead l next → sum ≡ sum_of l (v.entries ++ entry_of l row ∷ [])) (w : Worked) (right : sum ≡ sum_of l (v.entries ++ meant h ∷ []) → (k : Working) → worked_of w k ≡ reckon l v.entries (meant h) k) where
            total_is : sum ≡ sum_of l (v.entries ++ meant h ∷ [])
            total_is = sums reads ∙ ap (λ x. sum_of l (v.entries ++ x ∷ [])) is.entry

            pub prints_again : (x : Refusal) → Prints (Some x) (worked_of w) → Some x ≡ first_some (contents l v h)
            prints_again x e = some_none (at_fields (Some x) (worked_of w) (small below (worked_of w) (right total_is)) e ∙ sym fields)

            pub fits : (again : List ℕ) → print_row l (meant h) (reckoned_by (worked_of w) (origins_of l h.mark)) ≡ Ok again → Fit l v h again sum
            fits again e =
                let p = printed l law (meant h) _ again ready.known e in
                record {
                  is = sym (ap (ok_or []) e) ∙ ap (λ ws. ok_or [] (print_row l (meant h) ws)) (same_worked (worked_of w) (reckon l v.entries (meant h)) (origins_of l h.mark) (right total_is));
                  good = good_row _ again p keeps;
                  read = p.entry;
                  sums = total_is;
                }
