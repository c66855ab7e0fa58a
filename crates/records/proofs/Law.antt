-- A row reads as an entry exactly when the entry prints as it.
use Rattle.std.proofs.Common.{◌≡◌, ℕ, ◌+◌, eqb, List, [], ◌∷◌, ◌++◌, length, Some, None, Ok, Result, sym, ap, ◌∙◌, subst, ⊎_elim, arith}
use Rattle.std.specs.List.{AllByRecursion}
use Rattle.std.proofs.lemmas.Bool.{cases_Bool, eqb-true}
use Rattle.fields.specs.declared.flaws.Flaw.TheVariants.{Unfit}
use Rattle.refusals.specs.Faults.{fault, first_some, ok_or}
use Rattle.fields.specs.Field.{Field, family, Value, Cell, write_field, raw_write, fixed_in, gate, fits}
use Rattle.fields.specs.InRow.{at_field}
use Rattle.fields.proofs.Results.{err_ok, then_ok, passed}
use Rattle.layouts.specs.Layout.{Layout, Kind, found, or_none, kind_of}
use Rattle.layouts.specs.Lawful.{Covers, Begins, Lawful, LawfulKind}
use Rattle.records.specs.Cells.{read_cells, write_cells, cells, values_in, digits_in}
use Rattle.records.specs.Row.{Entry, Reading, fields_of, origins_of, has_mark, mark10, conditions15, Acceptable, print_row, mark_of, cells_of, entry_of, digits_of, row_faults, read_row, RowLaw, RowsKeepTheLaw, OneEntry, EqualRows}
use Rattle.records.proofs.Options.{some_none, none_all, all_none, answered, answers, ok_fault, fault_ok, at_ok}
use Rattle.records.proofs.Cells.{widths, cells_write, cells_read, shaped, dealt_again, gathered, none_wrong, alike, all_printed}

pub kind_found : (P : Kind → Type 0) (ks : List Kind) (m : ℕ) → AllByRecursion P ks → has_mark (found m ks) ≡ None → P (or_none (found m ks)) × ((or_none (found m ks)).mark ≡ m)
kind_found P [] m h e = some_none e
kind_found P (k ∷ ks) m h e =
    ⊎_elim
    (λ t. rw t (h.0, sym (eqb-true m k.mark t)))
    (λ f. rw f (kind_found P ks m h.1 (rw f at e)))
    (cases_Bool (eqb m k.mark))

pub widths_cover : (p : ℕ) (fs : List Field) → Covers p fs → p + widths fs ≡ 751
widths_cover p [] c = omega (arith, c)
widths_cover p (f ∷ fs) c = let h = widths_cover (p + f.width) fs c.1 in omega arith

mark_printed : (m : ℕ) (c : Cell) (b : List ℕ) → fixed_in (m ∷ []) 1 c ≡ Ok b → m ∷ [] ≡ b
mark_printed m None b e = cc
mark_printed m (Some v) b e = err_ok Unfit b e

mark_first : (m : ℕ) (fs : List Field) (cs : List Cell) (row : List ℕ) → Begins m fs → write_cells fs cs ≡ Ok row → mark_of row ≡ m
mark_first m [] cs row h e = absurd h
mark_first m (f ∷ fs) [] row h e = err_ok (fault 31 0) row e
mark_first m (f ∷ fs) (c ∷ cs) row h e =
    let p = then_ok (at_field f (write_field f c)) _ row e in
    let q = then_ok (write_cells fs cs) _ row p.2 in
    let r = then_ok (raw_write (family f.sort) f.width c) _ p.0 (passed (fits f) Unfit _ p.0 (at_ok f _ p.0 p.1)).1 in
    let s = then_ok (gate f.sort f.required c) _ p.0 r.2 in
    let w : fixed_in (m ∷ []) 1 c ≡ Ok r.0 = subst (λ n. fixed_in (m ∷ []) n c ≡ Ok r.0) h.1 (subst (λ x. raw_write (family x) f.width c ≡ Ok r.0) h.0 r.1) in
    let s2 = s.2 in
    let q2 = q.2 in
    let one : m ∷ [] ≡ r.0 = mark_printed m c r.0 w in
    let is : (m ∷ []) ++ q.0 ≡ row = cc in
    ap mark_of (sym is)

abbrev reading : Entry → List ℕ → Reading
reading e ws = record { entry = e; digits = ws }

abbrev entry : ℕ → List Value → Entry
entry m vs = record { mark = m; values = vs }

entry_is : (d e : Entry) → d.mark ≡ e.mark → d.values ≡ e.values → d ≡ e
entry_is d e p q = ap (λ x. entry x d.values) p ∙ ap (entry e.mark) q

pub record Printed (l : Layout) (e : Entry) (ws row : List ℕ) : Type 0 where
  pub long : length row ≡ 750
  pub mark : mark_of row ≡ e.mark
  pub cells : cells_of l row ≡ Ok (cells (origins_of l e.mark) e.values ws)
  pub entry : entry_of l row ≡ e
  pub digits : digits_of l row ≡ ws

module _ (l : Layout) (law : Lawful l) where
  pub lawful_kind : (m : ℕ) → mark10 l m ≡ None → LawfulKind l (kind_of l m) × ((kind_of l m).mark ≡ m)
  lawful_kind m e = kind_found (LawfulKind l) l.kinds m law.kinds e

  pub whole : (m : ℕ) → mark10 l m ≡ None → widths (fields_of l m) ≡ 750
  whole m e = omega (arith, widths_cover 1 (fields_of l m) (lawful_kind m e).0.covers)

  pub reads : (row : List ℕ) → length row ≡ 750 → first_some (row_faults l row) ≡ None → Acceptable l (entry_of l row) × (print_row l (entry_of l row) (digits_of l row) ≡ Ok row)
  reads row len e =
      let n = none_all (row_faults l row) e in
      let m = mark_of row in
      let fs = fields_of l m in
      let os = origins_of l m in
      let p = ok_fault (cells_of l row) n.1.0 in
      let cs = p.0 in
      let here : ok_or [] (cells_of l row) ≡ cs = ap (ok_or []) p.1 in
      let w : write_cells fs cs ≡ Ok row = cells_write fs row cs (len ∙ sym (whole m n.0)) p.1 in
      let sh = shaped fs cs row w in
      let again = dealt_again os cs sh in
      let prints : write_cells fs (cells os (values_in os cs) (digits_in os cs)) ≡ Ok row = ap (write_cells fs) again ∙ w in (
        record {
          known = n.0;
          valued = rw here (none_wrong os cs sh);
          prints = rw here (all_printed fs (cells os (values_in os cs) (digits_in os cs)) (cells os (values_in os cs) []) row (alike os (values_in os cs) (digits_in os cs) []) prints);
          keeps = n.1.1.0;
        },
        rw here prints,
      )

  -- a row that was printed reads back as what it was printed from
  pub printed : (e : Entry) (ws row : List ℕ) → mark10 l e.mark ≡ None → print_row l e ws ≡ Ok row → Printed l e ws row
  printed e ws row known p =
      let m = e.mark in
      let fs = fields_of l m in
      let os = origins_of l m in
      let cs = cells os e.values ws in
      let k = lawful_kind m known in
      let r = cells_read fs row cs p in
      let first : mark_of row ≡ m = mark_first (kind_of l m).mark fs cs row k.0.begins p ∙ k.1 in
      let back = gathered os e.values ws (shaped fs cs row p) in
      let read : cells_of l row ≡ Ok cs = ap (λ x. read_cells (fields_of l x) row) first ∙ r.1 in
      let vals : (entry_of l row).values ≡ e.values = ap (λ x. values_in (origins_of l x) (ok_or [] (cells_of l row))) first ∙ ap (λ x. values_in os (ok_or [] x)) read ∙ back.0 in
      record {
        long = r.0 ∙ whole m known;
        mark = first;
        cells = read;
        entry = entry_is (entry_of l row) e first vals;
        digits = ap (λ x. digits_in (origins_of l x) (ok_or [] (cells_of l row))) first ∙ ap (λ x. digits_in os (ok_or [] x)) read ∙ back.1;
      }

  pub writes : (e : Entry) (ws row : List ℕ) → Acceptable l e → print_row l e ws ≡ Ok row → (length row ≡ 750) × (entry_of l row ≡ e) × (digits_of l row ≡ ws) × (first_some (row_faults l row) ≡ None)
  writes e ws row a p =
      let is = printed e ws row a.known p in (
        is.long,
        is.entry,
        is.digits,
        all_none (row_faults l row) (ap (mark10 l) is.mark ∙ a.known, (fault_ok (cells_of l row) _ is.cells, (ap (conditions15 l) is.entry ∙ a.keeps, tt))),
      )

  pub row_law : RowLaw l
  row_law row e ws = (
    (λ h. let p = answered (first_some (row_faults l row)) _ _ h.1 in
        let q = reads row h.0 p.0 in
        let ent : entry_of l row ≡ e = ap (λ r. r.entry) p.1 in
        let dig : digits_of l row ≡ ws = ap (λ r. r.digits) p.1 in
        (subst (Acceptable l) ent q.0, ap (λ d. print_row l e d) (sym dig) ∙ ap (λ x. print_row l x (digits_of l row)) (sym ent) ∙ q.1)),
    (λ h. let q = writes e ws row h.0 h.1 in
        (q.0, answers (first_some (row_faults l row)) _ _ q.3 (ap (λ x. reading x (digits_of l row)) q.1 ∙ ap (reading e) q.2))),
  )

pub rows_keep_the_law : RowsKeepTheLaw
rows_keep_the_law l law = row_law l law

pub one_entry : OneEntry
one_entry l law row d e us ws a b p q =
    let r = printed l law d us row a.known p in
    let s = printed l law e ws row b.known q in
    (sym r.entry ∙ s.entry, sym r.digits ∙ s.digits)

ok_same : {A E : Type 0} (r : Result A E) (x y : A) → r ≡ Ok x → r ≡ Ok y → x ≡ y
ok_same r x y p q = cc

pub equal_rows : EqualRows
equal_rows l law row other r s len len' p q = (
  (λ e. let is : r ≡ s = ok_same (read_row l other) r s (ap (read_row l) (sym e) ∙ p) q in
      (ap (λ x. x.entry.mark) is, ap (λ x. x.entry.values) is, ap (λ x. x.digits) is)),
  (λ h. let a = (row_law l law row r.entry r.digits).0 (len, p) in
      let b = (row_law l law other s.entry s.digits).0 (len', q) in
      let same : r.entry ≡ s.entry = entry_is r.entry s.entry h.0 h.1 in
      ok_same (print_row l s.entry s.digits) row other (ap (print_row l s.entry) (sym h.2) ∙ ap (λ x. print_row l x r.digits) (sym same) ∙ a.1) b.1),
)
