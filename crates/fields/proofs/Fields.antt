-- A field reads as v exactly when v is written as it: one argument over every sort.
use Rattle.std.proofs.Common.{◌≡◌, ℕ, ◌-◌, ◌<◌, ◌≤◌, Bool, true, cond, eqb, List, ◌++◌, length, get_or, replicate, Ok, Err, Result, sym, ap, ◌∙◌, arith, length-append}
use lib.ListN.{length-replicate}
use Rattle.std.proofs.lemmas.Grind.{common_steps}
use Rattle.std.proofs.lemmas.List.{same_lists, get_or_default}
use Rattle.std.proofs.lemmas.Bool.{and_parts, eq-eqb, eqb-true, not-false, not_from_true}
use Rattle.refusals.specs.Faults.{and_then}
use Rattle.fields.specs.declared.flaws.Flaw.{Flaw}
use Rattle.fields.specs.declared.flaws.Flaw.TheVariants.{Unfit}
use Rattle.fields.specs.Places.{first_bad}
use Rattle.fields.specs.Digits.{check_digits, read_number, write_number}
use Rattle.fields.specs.Text.{padded, read_text, write_text}
use Rattle.fields.specs.Field.{Sort, Family, fixed, digits, letters, long_digits, figured, family, Cell, wide, inside, fits, differs, read_fixed, write_long, as_num, as_txt, raw_read, fixed_in, num_in, txt_in, raw_write, fixed_of, gate, FieldLaw, OneValue, ReadIsWritten}
use Rattle.fields.proofs.Results.{Both, then_ok, passed}
use Rattle.fields.proofs.Finding.{first_le_end, none_in, none_of}
use Rattle.fields.proofs.NumberLaw.{number_law, length-printed}
use Rattle.fields.proofs.TextLaw.{text_law}

-- what passes the gate is handed on as it is
pub through : (s : Sort) (required : Bool) (u v : Cell) → gate s required u ≡ Ok v → v ≡ u
through s required u v e = grind (arith, common_steps)

-- fixed contents
get_or-padded : (c : List ℕ) (k i : ℕ) → get_or (c ++ replicate k 32) i 32 ≡ get_or c i 32
get_or-padded c k i = grind (arith, common_steps)

pub length-padded : (w : ℕ) (c : List ℕ) → length c ≤ w → length (padded w c) ≡ w
length-padded w c h = omega (arith, length-append c (replicate (w - length c) 32), length-replicate {A = ℕ} (w - length c) 32)

-- no byte differs from the content exactly when the bytes are the content and then blanks
same_as : (c bs : List ℕ) → length c ≤ length bs → first_bad (differs c) 0 bs ≡ length bs → padded (length bs) c ≡ bs
same_as c bs h e =
    same_lists (padded (length bs) c) bs (length-padded (length bs) c h)
    (λ i d l. let m : i < length bs = omega (arith, l, length-padded (length bs) c h) in
    let is = eqb-true (get_or bs i 0) (get_or c i 32) (not-false (eqb (get_or bs i 0) (get_or c i 32)) (none_in (differs c) bs e i m)) in
    get_or_default (padded (length bs) c) i d 32 l ∙ get_or-padded c (length bs - length c) i ∙ sym is ∙ get_or_default bs i 0 d m)

as_same : (c bs : List ℕ) → padded (length bs) c ≡ bs → first_bad (differs c) 0 bs ≡ length bs
as_same c bs e =
    none_of (differs c) bs
    (λ i l. not_from_true (eqb (get_or bs i 0) (get_or c i 32)) (eq-eqb (get_or bs i 0) (get_or c i 32) (get_or_default bs i 0 32 l ∙ ap (λ l. get_or l i 32) (sym e) ∙ get_or-padded c (length bs - length c) i)))

fixed_law : (c bs : List ℕ) (v : Cell) → length c ≤ length bs → Both (read_fixed c bs ≡ Ok v) (fixed_in c (length bs) v ≡ Ok bs)
fixed_law c bs v h = (λ e. grind (arith, common_steps, same_as c bs h, first_le_end (differs c) bs 0), λ e. grind (arith, common_steps, as_same c bs))

-- a number or a text is read and written as the digits or the bytes are
num_law : (bs : List ℕ) (v : Cell) → ((n : ℕ) → Both (read_number bs ≡ Ok n) (write_number (length bs) n ≡ Ok bs)) → Both (as_num (read_number bs) ≡ Ok v) (num_in (length bs) v ≡ Ok bs)
num_law bs v law = (λ h. grind (arith, common_steps), λ h. grind (arith, common_steps))

txt_law : (read : Result (List ℕ) Flaw) (write : ℕ → List ℕ → Result (List ℕ) Flaw) (bs : List ℕ) (v : Cell) → ((t : List ℕ) → Both (read ≡ Ok t) (write (length bs) t ≡ Ok bs)) → Both (as_txt read ≡ Ok v) (txt_in write (length bs) v ≡ Ok bs)
txt_law read write bs v law = (λ h. grind (arith, common_steps), λ h. grind (arith, common_steps))

long_law : (bs t : List ℕ) → Both (check_digits bs ≡ Ok t) (write_long (length bs) t ≡ Ok bs)
long_law bs t = (λ e. grind (arith, common_steps), λ e. grind (arith, common_steps))

raw_law : (a : Family) (bs : List ℕ) (v : Cell) → length (fixed_of a) ≤ length bs → Both (raw_read a bs ≡ Ok v) (raw_write a (length bs) v ≡ Ok bs)
raw_law (fixed c) bs v h = fixed_law c bs v h
raw_law digits bs v h = num_law bs v (number_law bs)
raw_law letters bs v h = txt_law (read_text bs) write_text bs v (text_law bs)
raw_law long_digits bs v h = txt_law (check_digits bs) write_long bs v (long_law bs)
raw_law (figured k) bs v h = num_law bs v (number_law bs)

-- what is written has the field's width
raw_width : (a : Family) (w : ℕ) (v : Cell) (bs : List ℕ) → raw_write a w v ≡ Ok bs → length bs ≡ w
raw_width a w v bs e = grind (arith, common_steps, length-padded, length-printed)

raw_both : (a : Family) (w : ℕ) (bs : List ℕ) (v : Cell) → length (fixed_of a) ≤ w → Both ((length bs ≡ w) × (raw_read a bs ≡ Ok v)) (raw_write a w v ≡ Ok bs)
raw_both a w bs v h = (
  (λ p. let l = p.0 in rw l at ((raw_law a bs v (rw l h)).0 p.1)),
  (λ e. let l = raw_width a w v bs e in (l, (raw_law a bs v (rw l h)).1 (rw l e))),
)

-- a constant fits its field
room : (s : Sort) (w : ℕ) → wide s w ≡ true → length (fixed_of (family s)) ≤ w
room s w h = grind (arith, common_steps)

-- the law of a field, from that of its bytes: r reads them, w writes them, and g is the gate
module _ (fit : Bool) (r : Result Cell Flaw) (w : Result (List ℕ) Flaw) (g : Cell → Result Cell Flaw) (bs : List ℕ) (v : Cell) (n : ℕ) where
  to_written : ((u : Cell) → g u ≡ Ok v → v ≡ u) → (fit ≡ true → r ≡ Ok v → w ≡ Ok bs) → cond fit (and_then r g) (Err Unfit) ≡ Ok v → cond fit (and_then w (λ bs. and_then (g v) (λ _. Ok bs))) (Err Unfit) ≡ Ok bs
  to_written same law h = grind (arith, common_steps)

  to_read : ((u : Cell) → g v ≡ Ok u → u ≡ v) → (fit ≡ true → w ≡ Ok bs → (length bs ≡ n) × (r ≡ Ok v)) → cond fit (and_then w (λ bs. and_then (g v) (λ _. Ok bs))) (Err Unfit) ≡ Ok bs → (length bs ≡ n) × (cond fit (and_then r g) (Err Unfit) ≡ Ok v)
  to_read same law h =
      let p = then_ok w _ bs (passed fit Unfit _ bs h).1 in
      let q = then_ok (g v) _ bs p.2 in
      let gated : g v ≡ Ok v = q.1 ∙ ap Ok (same q.0 q.1) in
      (grind (arith, common_steps), grind (arith, common_steps))

pub field_law : FieldLaw
field_law f bs v =
    let raw : fits f ≡ true → Both ((length bs ≡ f.width) × (raw_read (family f.sort) bs ≡ Ok v)) (raw_write (family f.sort) f.width v ≡ Ok bs) =
    λ fit. raw_both (family f.sort) f.width bs v (room f.sort f.width (and_parts (inside f.start f.width) (wide f.sort f.width) fit).1) in
    let step = to_written (fits f) (raw_read (family f.sort) bs) (raw_write (family f.sort) f.width v) (gate f.sort f.required) bs v f.width in
    let back = to_read (fits f) (raw_read (family f.sort) bs) (raw_write (family f.sort) f.width v) (gate f.sort f.required) bs v f.width in (
      (λ p. step (λ u. through f.sort f.required u v) (λ fit r. (raw fit).0 (p.0, r)) p.1),
      (λ e. back (λ u. through f.sort f.required v u) (λ fit. (raw fit).1) e),
    )

pub one_value : OneValue
one_value f bs u v a b =
    let p = ((field_law f bs u).1 a).1 in
    let q = ((field_law f bs v).1 b).1 in
    let e : Ok u ≡ Ok v = sym p ∙ q in
    cc

pub read_is_written : ReadIsWritten
read_is_written f bs v l e = (field_law f bs v).0 (l, e)
