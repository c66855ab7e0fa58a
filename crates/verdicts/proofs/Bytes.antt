-- A row that a book reads holds bytes: what is read of a field are printable characters.
use Rattle.std.proofs.Common.{◌≡◌, ℕ, zero, suc, ◌-◌, ◌<◌, Bool, false, List, [], ◌∷◌, length, get_or, take, drop, replicate, None, Ok, sym, refl, ◌∙◌, subst, ⊎_elim, arith}
use Rattle.std.specs.List.{AllByRecursion}
use Rattle.std.proofs.lemmas.List.{take-append-drop, length-drop, nil_from_length, get_or_past}
use Rattle.std.proofs.ByRecursion.{All-get_or, All-from_get_or, All-append, All-weaker}
use Rattle.std.proofs.lemmas.Bool.Decides.{nat_tests}
use Rattle.std.proofs.lemmas.Bool.{cases_lt, not-false, eqb-true}
use Rattle.refusals.specs.Faults.{first_some}
use Rattle.fields.specs.declared.flaws.Flaw.{Flaw}
use Rattle.fields.specs.declared.flaws.Flaw.TheVariants.{Differs, Byte, Unfit}
use Rattle.fields.specs.Places.{checked}
use Rattle.fields.specs.Digits.{no_digit, check_digits, read_number}
use Rattle.fields.specs.Text.{bad_text, trimmed, read_text}
use Rattle.fields.specs.Field.{Field, Sort, fixed, letters, family, Cell, differs, as_num, raw_read, fits, read_field, constant, blank, text, word, number, code, date, amount, long, worked}
use Rattle.fields.proofs.Results.{then_ok, passed}
use Rattle.fields.proofs.Finding.{none_in, ok_checked}
use Rattle.fields.proofs.Trim.{padded-trimmed}
use Rattle.fields.proofs.NumberLaw.{is_digit}
use Rattle.layouts.specs.Layout.{Layout}
use Rattle.layouts.specs.Lawful.{Lawful, Between, Contents}
use Rattle.fields.specs.InRow.{at_field}
use Rattle.records.specs.Cells.{read_cells}
use Rattle.records.specs.Row.{fields_of, mark_of, cells_of, row_faults}
use Rattle.records.proofs.Options.{none_all, ok_fault, at_ok}
use Rattle.records.proofs.Cells.{widths}
use Rattle.records.proofs.Law.{lawful_kind, whole}

abbrev pub Small : ℕ → Type 0
Small b = b < 256

-- what a check hands on passes it at each place
each : (flaw : ℕ → Flaw) (bad : ℕ → ℕ → Bool) (bs cs : List ℕ) → checked flaw bad bs ≡ Ok cs → ((k b : ℕ) → bad k b ≡ false → Small b) → AllByRecursion Small bs
each flaw bad bs cs e fine =
    let none = (ok_checked bad flaw bs cs e).0 in
    All-from_get_or Small bs 0 (λ i l. fine i (get_or bs i 0) (none_in bad bs none i l))

-- of bytes a place is one, past the end too
pub small_at : (c : List ℕ) (d i : ℕ) → Small d → AllByRecursion Small c → Small (get_or c i d)
small_at c d i s h = ⊎_elim (λ l. All-get_or Small c i d l h) (λ l. rw (get_or_past c i d l) s) (cases_lt i (length c))

fixed_small : (c bs : List ℕ) (v : Cell) → AllByRecursion Small c → raw_read (fixed c) bs ≡ Ok v → AllByRecursion Small bs
fixed_small c bs v h e =
    let p = then_ok (checked Differs (differs c) bs) _ v e in
    each Differs (differs c) bs p.0 p.1 (λ k b f. rw (eqb-true b (get_or c k 32) (not-false _ f)) (small_at c 32 k (omega arith) h))

digits_small : (bs cs : List ℕ) → check_digits bs ≡ Ok cs → AllByRecursion Small bs
digits_small bs cs e = each Byte no_digit bs cs e (λ k b f. omega (arith, (is_digit k b f).1))

text_small : (bs : List ℕ) (v : Cell) → raw_read letters bs ≡ Ok v → AllByRecursion Small bs
text_small bs v e =
    let t = trimmed bs in
    let p = then_ok (read_text bs) _ v e in
    let front = each Byte (bad_text (length t)) t p.0 p.1 (λ k b f. grind (arith, nat_tests)) in
    subst (AllByRecursion Small) (padded-trimmed bs) (All-append Small t (replicate (length bs - length t) 32) front (blanks (length bs - length t)))
  where
    blanks : (n : ℕ) → AllByRecursion Small (replicate n 32)
    blanks zero = tt
    blanks (suc n) = (omega arith, blanks n)

number_small : (bs : List ℕ) (v : Cell) → as_num (read_number bs) ≡ Ok v → AllByRecursion Small bs
number_small bs v e =
    let p = then_ok (read_number bs) _ v e in
    let q = then_ok (check_digits bs) _ p.0 p.1 in
    digits_small bs q.0 q.1

raw_small : (s : Sort) (bs : List ℕ) (v : Cell) → ((c : List ℕ) → s ≡ constant c → AllByRecursion Small c) → raw_read (family s) bs ≡ Ok v → AllByRecursion Small bs
raw_small (constant c) bs v h e = fixed_small c bs v (h c refl) e
raw_small blank bs v h e = fixed_small [] bs v tt e
raw_small text bs v h e = text_small bs v e
raw_small (word us) bs v h e = text_small bs v e
raw_small number bs v h e = number_small bs v e
raw_small (code cs) bs v h e = number_small bs v e
raw_small date bs v h e = number_small bs v e
raw_small amount bs v h e = number_small bs v e
raw_small long bs v h e = let p = then_ok (check_digits bs) _ v e in digits_small bs p.0 p.1
raw_small (worked k) bs v h e = number_small bs v e

field_small : (f : Field) (bs : List ℕ) (v : Cell) → Contents f → read_field f bs ≡ Ok v → AllByRecursion Small bs
field_small f bs v lawful e =
    let p = passed (fits f) Unfit _ v e in
    let q = then_ok (raw_read (family f.sort) bs) _ v p.1 in
    let printable = λ (c : List ℕ) (is : f.sort ≡ constant c). All-weaker (Between 32 126) Small (λ b h. omega (arith, h.1)) c (lawful.constants c is).0 in
    raw_small f.sort bs q.0 printable q.1

cells_small : (fs : List Field) (bs : List ℕ) (cs : List Cell) → AllByRecursion Contents fs → length bs ≡ widths fs → read_cells fs bs ≡ Ok cs → AllByRecursion Small bs
cells_small [] bs cs h l e = subst (AllByRecursion Small) (sym (nil_from_length bs l)) tt
cells_small (f ∷ fs) bs cs h l e =
    let p = then_ok (at_field f (read_field f (take f.width bs))) _ cs e in
    let q = then_ok (read_cells fs (drop f.width bs)) _ cs p.2 in
    let r : length (drop f.width bs) ≡ widths fs = omega (arith, length-drop f.width bs) in
    let first = field_small f (take f.width bs) p.0 h.0 (at_ok f _ p.0 p.1) in
    let rest = cells_small fs (drop f.width bs) q.0 h.1 r q.1 in
    subst (AllByRecursion Small) (take-append-drop f.width bs) (All-append Small (take f.width bs) (drop f.width bs) first rest)

-- a row that is read as an entry holds bytes
pub row_small : (l : Layout) → Lawful l → (row : List ℕ) → length row ≡ 750 → first_some (row_faults l row) ≡ None → AllByRecursion Small row
row_small l law row full sound =
    let n = none_all (row_faults l row) sound in
    let m = mark_of row in
    let cs = ok_fault (cells_of l row) n.1.0 in
    cells_small (fields_of l m) row cs.0 (lawful_kind l law m n.0).0.contents (full ∙ sym (whole l law m n.0)) cs.1
