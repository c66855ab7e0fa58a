-- One row after the entries before: it is not refused exactly when it is the row of an entry that is not refused.
use Rattle.std.proofs.Common.{◌≡◌, ℕ, ◌+◌, ◌^◌, ◌<◌, ◌≤◌, Bool, true, List, [], ◌∷◌, ◌++◌, length, Some, None, Ok, Option, refl, ap, ◌∙◌, arith}
use Rattle.std.proofs.lemmas.Grind.{common_steps}
use Rattle.std.proofs.lemmas.Bool.{leb-true, ltb-true}
use Rattle.refusals.specs.Faults.{in_row, first_some}
use Rattle.fields.specs.Field.{Working}
use Rattle.layouts.specs.Layout.{Layout}
use Rattle.layouts.specs.Lawful.{Lawful}
use Rattle.records.specs.Cells.{cells, sorts_asked}
use Rattle.records.specs.Row.{Entry, fields_of, origins_of, contents, mark10, values31, fields11, conditions15, print_row, mark_of, entry_of, digits_of, row_faults}
use Rattle.records.proofs.Options.{some_none, none_all, all_none, no_fault, in_none, unless_true, true_unless}
use Rattle.records.proofs.Cells.{shaped, alike, prints_all}
use Rattle.records.proofs.Law.{reads, writes, lawful_kind}
use Rattle.records.specs.Worked.{reckoned_by}
use Rattle.legality.specs.Before.{sum_of, reckon, row_of}
use Rattle.records.specs.Entries.{value_fault}
use Rattle.legality.specs.Checks.{row27, order20, group21, owner22, sum26, first_wrong, is_number, is_total, is_count, wrong, row_checks, row_fault, Call, asks, first_checks, entry_checks, checks_with, entry_fault}
use Rattle.legality.proofs.Fitting.{kind_fits}
use Rattle.legality.proofs.Reckoning.{reckon_fits, worked_fit, none_wrong, all_right}

-- what it means that no check refuses an entry, whatever its values gave for 31
pub record Passed (l : Layout) (before : List Entry) (c : Call) (e : Entry) : Type 0 where
  pub few : row27 (length before + 1) ≡ None
  pub known : mark10 l e.mark ≡ None
  pub asked : asks l c e.mark ≡ true
  pub order : order20 l before e.mark ≡ None
  pub group : group21 l before e.mark ≡ None
  pub fields : fields11 l e ≡ None
  pub conditions : conditions15 l e ≡ None
  pub owner : owner22 l before e ≡ None
  pub sum : sum26 l before e ≡ None

value_none : (v : Option ℕ) → value_fault v ≡ None → v ≡ None
value_none None h = refl
value_none (Some n) h = some_none h

module _ (l : Layout) (before : List Entry) (c : Call) (e : Entry) where
  pub passed : (v : Option ℕ) → checks_with v l before c e ≡ None → Passed l before c e × (v ≡ None)
  passed v h =
      let n = length before + 1 in
      let p = none_all (in_row n (first_some (first_checks l before e.mark)) ∷ (value_fault v ∷ (in_row n (first_some (entry_checks l before c e)) ∷ []))) h in
      let a = none_all (first_checks l before e.mark) (no_fault n _ p.0) in
      let b = none_all (entry_checks l before c e) (no_fault n _ p.1.1.0) in (
        record {
          few = a.0;
          known = a.1.0;
          asked = unless_true _ _ b.0;
          order = b.1.0;
          group = b.1.1.0;
          fields = b.1.1.1.0;
          conditions = b.1.1.1.1.0;
          owner = b.1.1.1.1.1.0;
          sum = b.1.1.1.1.1.1.0;
        },
        value_none v p.1.0,
      )

  pub passes : (v : Option ℕ) → Passed l before c e → v ≡ None → checks_with v l before c e ≡ None
  passes v p h =
      let n = length before + 1 in
      all_none (in_row n (first_some (first_checks l before e.mark)) ∷ (value_fault v ∷ (in_row n (first_some (entry_checks l before c e)) ∷ [])))
      (in_none n _ (all_none (first_checks l before e.mark) (p.few, (p.known, tt))), (ap value_fault h, (in_none n _ (all_none (entry_checks l before c e) (true_unless _ _ p.asked, (p.order, (p.group, (p.fields, (p.conditions, (p.owner, (p.sum, tt)))))))), tt)))

pub as_many : (l : Layout) (e : Entry) → values31 l e ≡ None → length (sorts_asked (origins_of l e.mark)) ≡ length e.values
as_many l e h = grind (arith, common_steps)

module _ (l : Layout) (law : Lawful l) where
  -- a row that is not refused is the row of its entry, which passes
  pub enters : (before : List Entry) (row : List ℕ) → length row ≡ 750 → row_fault l before row ≡ None →
      (row_of l before (entry_of l row) ≡ row) × ((c : Call) → asks l c (mark_of row) ≡ true → entry_fault l before c (entry_of l row) ≡ None)
  enters before row len h =
      let n = none_all (row_checks l before row) (no_fault (length before + 1) _ h) in
      let e = entry_of l row in
      let os = origins_of l e.mark in
      let r = reckon l before e in
      let q = reads l law row len (all_none (row_faults l row) (n.1.0, (n.1.1.1.1.0, (n.1.1.1.1.1.0, tt)))) in
      let sh = shaped (fields_of l e.mark) (cells os e.values (digits_of l row)) row q.1 in
      let is : digits_of l row ≡ reckoned_by r os = all_right r os e.values (digits_of l row) sh n.1.1.1.1.1.1.1.0 n.1.1.1.1.1.1.1.1.1.0 n.1.1.1.1.1.1.1.1.1.1.0 in (
        rw (← is, q.1),
        λ c a. passes l before c e (values31 l e) (record {
          few = n.0;
          known = n.1.0;
          asked = a;
          order = n.1.1.0;
          group = n.1.1.1.0;
          fields = q.0.prints;
          conditions = q.0.keeps;
          owner = n.1.1.1.1.1.1.0;
          sum = n.1.1.1.1.1.1.1.1.0;
        }) q.0.valued,
      )

  -- an entry that passes has a row
  has_row : (before : List Entry) (c : Call) (e : Entry) → Passed l before c e → values31 l e ≡ None → print_row l e (reckoned_by (reckon l before e) (origins_of l e.mark)) ≡ Ok (row_of l before e)
  has_row before c e p v =
      let os = origins_of l e.mark in
      let fs = fields_of l e.mark in
      let ws = reckoned_by (reckon l before e) os in
      let n : length before + 1 ≤ 65535 = leb-true (length before + 1) 65535 (unless_true _ _ p.few) in
      let s : sum_of l (before ++ e ∷ []) < 10 ^ 17 = ltb-true (sum_of l (before ++ e ∷ [])) (10 ^ 17) (unless_true _ _ p.sum) in
      let fit = worked_fit (reckon l before e) (reckon_fits l before e n s) fs (lawful_kind l law e.mark p.known).0.widths (kind_fits l _ (lawful_kind l law e.mark p.known).0) e.values (as_many l e v) in
      let q = prints_all fs (cells os e.values ws) (contents l e) (alike os e.values ws []) fit p.fields in
      rw q.1

  -- and its row is not refused, and reads as it
  pub leaves : (before : List Entry) (c : Call) (e : Entry) → Passed l before c e → values31 l e ≡ None →
      (length (row_of l before e) ≡ 750) × (entry_of l (row_of l before e) ≡ e) × (row_fault l before (row_of l before e) ≡ None)
  leaves before c e p v =
      let row = row_of l before e in
      let os = origins_of l e.mark in
      let r = reckon l before e in
      let q = writes l law e (reckoned_by r os) row (record { known = p.known; valued = v; prints = p.fields; keeps = p.conditions }) (has_row before c e p v) in
      let same : entry_of l row ≡ e = q.1 in
      let m : mark_of row ≡ e.mark = ap (λ x. x.mark) same in
      let t = none_all (row_faults l row) q.3 in
      let right : (k : ℕ) (looked : Working → Bool) → wrong k looked l before row ≡ None =
      λ k looked. ap (λ x. first_wrong k looked (reckon l before x) (origins_of l x.mark) (digits_of l row)) same ∙ rw q.2 (none_wrong k looked r os) in (
        q.0,
        same,
        in_none (length before + 1) _ (all_none (row_checks l before row) (p.few, (t.0, (ap (order20 l before) m ∙ p.order, (ap (group21 l before) m ∙ p.group, (t.1.0, (t.1.1.0, (ap (owner22 l before) same ∙ p.owner, (right 23 is_number, (ap (sum26 l before) same ∙ p.sum, (right 24 is_total, (right 25 is_count, tt)))))))))))),
      )
