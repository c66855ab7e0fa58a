-- Fields one after the other read as their contents exactly when these print as them.
use Rattle.std.proofs.Common.{◌≡◌, ℕ, suc, ◌+◌, true, List, [], ◌∷◌, ◌++◌, length, take, drop, Some, None, Ok, Option, Result, sym, refl, ap, ◌∙◌, arith, length-append, take-append-drop}
use Rattle.std.proofs.lemmas.List.{length-take-le, length-drop, take_at, drop_at, nil_from_length}
use Rattle.std.proofs.lemmas.Bool.{eq-eqb}
use Rattle.fields.specs.declared.flaws.Flaw.{Flaw}
use Rattle.fields.specs.declared.flaws.Flaw.TheVariants.{Unfit}
use Rattle.refusals.specs.Faults.{Fault, fault, fault_in}
use Rattle.fields.specs.Field.{Field, Family, fixed, digits, letters, long_digits, figured, family, Working, Value, num, txt, Cell, read_field, write_field, raw_write, write_long, fixed_in, num_in, txt_in, fits}
use Rattle.fields.specs.Text.{write_text}
use Rattle.fields.specs.InRow.{at_field}
use Rattle.fields.proofs.Results.{err_ok, then_ok, ok_then, passed}
use Rattle.fields.proofs.Fields.{field_law}
use Rattle.records.specs.Cells.{read_cells, write_cells, Origin, of_book, entered, reckoned, is_num, is_txt, origin_at, origin, origins, cells, values_in, digits_in, sorts_asked, first_other, wrong_value, unworked, unprinted}
use Rattle.records.proofs.Options.{two_none, none_two, fault_ok, ok_fault, at_ok, ok_at}

abbrev pub widths : List Field → ℕ
widths [] = 0
widths (f ∷ fs) = f.width + widths fs

pub cells_write : (fs : List Field) → (bs : List ℕ) (cs : List Cell) → length bs ≡ widths fs → read_cells fs bs ≡ Ok cs → write_cells fs cs ≡ Ok bs
cells_write [] bs cs l e =
    let n : cs ≡ [] = cc in
    rw (n, nil_from_length bs l)
cells_write (f ∷ fs) bs cs l e =
    let p = then_ok (at_field f (read_field f (take f.width bs))) _ cs e in
    let c = p.0 in
    let q = then_ok (read_cells fs (drop f.width bs)) _ cs p.2 in
    let k : length (take f.width bs) ≡ f.width = length-take-le f.width bs (omega arith) in
    let r : length (drop f.width bs) ≡ widths fs = omega (arith, length-drop f.width bs) in
    let first : write_field f c ≡ Ok (take f.width bs) = (field_law f (take f.width bs) c).0 (k, at_ok f _ c p.1) in
    let rest = cells_write fs (drop f.width bs) q.0 r q.1 in
    let q2 = q.2 in
    let is : c ∷ q.0 ≡ cs = cc in
    rw (← is)
    (ok_then (at_field f (write_field f c)) _ (take f.width bs) bs (ok_at f _ _ first)
    (ok_then (write_cells fs q.0) _ (drop f.width bs) bs rest (ap Ok (take-append-drop f.width bs))))

pub cells_read : (fs : List Field) → (bs : List ℕ) (cs : List Cell) → write_cells fs cs ≡ Ok bs → (length bs ≡ widths fs) × (read_cells fs bs ≡ Ok cs)
cells_read [] bs [] e = let b : [] ≡ bs = cc in (sym (ap length b), refl)
cells_read [] bs (c ∷ cs) e = err_ok (fault 31 0) bs e
cells_read (f ∷ fs) bs [] e = err_ok (fault 31 0) bs e
cells_read (f ∷ fs) bs (c ∷ cs) e =
    let p = then_ok (at_field f (write_field f c)) _ bs e in
    let q = then_ok (write_cells fs cs) _ bs p.2 in
    let b = p.0 in
    let rest = q.0 in
    let one = (field_law f b c).1 (at_ok f _ b p.1) in
    let more = cells_read fs rest cs q.1 in
    let q2 = q.2 in
    let is : b ++ rest ≡ bs = cc in
    let here : read_field f (take f.width bs) ≡ Ok c = rw (← is, take_at b rest f.width one.0) one.1 in
    let there : read_cells fs (drop f.width bs) ≡ Ok cs = rw (← is, drop_at b rest f.width one.0) more.1 in
    let len : length bs ≡ f.width + widths fs = sym (ap length is) ∙ omega (arith, length-append b rest, one.0, more.0) in (
      len,
      ok_then (at_field f (read_field f (take f.width bs))) _ c (c ∷ cs) (ok_at f _ c here) (ok_then (read_cells fs (drop f.width bs)) _ cs (c ∷ cs) there refl),
    )

-- the content that a field of each origin has
abbrev pub Shape : Origin → Cell → Type 0
Shape of_book None = Unit {0}
Shape of_book (Some v) = ⊥
Shape (entered p) None = ⊥
Shape (entered p) (Some v) = p v ≡ true
Shape (reckoned s k) None = ⊥
Shape (reckoned s k) (Some (num n)) = Unit {0}
Shape (reckoned s k) (Some (txt t)) = ⊥

abbrev pub Shaped : List Origin → List Cell → Type 0
Shaped [] [] = Unit {0}
Shaped [] (c ∷ cs) = ⊥
Shaped (o ∷ os) [] = ⊥
Shaped (o ∷ os) (c ∷ cs) = Shape o c × Shaped os cs

fixed_shape : (c : List ℕ) (w : ℕ) (v : Cell) (bs : List ℕ) → fixed_in c w v ≡ Ok bs → Shape of_book v
fixed_shape c w None bs e = tt
fixed_shape c w (Some v) bs e = err_ok Unfit bs e

num_shape : (w : ℕ) (v : Cell) (bs : List ℕ) → num_in w v ≡ Ok bs → Shape (entered is_num) v
num_shape w None bs e = err_ok Unfit bs e
num_shape w (Some (num n)) bs e = refl
num_shape w (Some (txt t)) bs e = err_ok Unfit bs e

work_shape : (s : ℕ) (k : Working) (w : ℕ) (v : Cell) (bs : List ℕ) → num_in w v ≡ Ok bs → Shape (reckoned s k) v
work_shape s k w None bs e = err_ok Unfit bs e
work_shape s k w (Some (num n)) bs e = tt
work_shape s k w (Some (txt t)) bs e = err_ok Unfit bs e

txt_shape : (f : ℕ → List ℕ → Result (List ℕ) Flaw) (w : ℕ) (v : Cell) (bs : List ℕ) → txt_in f w v ≡ Ok bs → Shape (entered is_txt) v
txt_shape f w None bs e = err_ok Unfit bs e
txt_shape f w (Some (num n)) bs e = err_ok Unfit bs e
txt_shape f w (Some (txt t)) bs e = refl

raw_shape : (a : ℕ) (y : Family) (w : ℕ) (v : Cell) (bs : List ℕ) → raw_write y w v ≡ Ok bs → Shape (origin_at a y) v
raw_shape a (fixed c) w v bs e = fixed_shape c w v bs e
raw_shape a digits w v bs e = num_shape w v bs e
raw_shape a letters w v bs e = txt_shape write_text w v bs e
raw_shape a long_digits w v bs e = txt_shape write_long w v bs e
raw_shape a (figured k) w v bs e = work_shape a k w v bs e

pub shaped : (fs : List Field) (cs : List Cell) (bs : List ℕ) → write_cells fs cs ≡ Ok bs → Shaped (origins fs) cs
shaped [] [] bs e = tt
shaped [] (c ∷ cs) bs e = err_ok (fault 31 0) bs e
shaped (f ∷ fs) [] bs e = err_ok (fault 31 0) bs e
shaped (f ∷ fs) (c ∷ cs) bs e =
    let p = then_ok (at_field f (write_field f c)) _ bs e in
    let q = then_ok (write_cells fs cs) _ bs p.2 in
    let r = then_ok (raw_write (family f.sort) f.width c) _ p.0 (passed (fits f) Unfit _ p.0 (at_ok f _ p.0 p.1)).1 in
    (raw_shape f.start (family f.sort) f.width c r.0 r.1, shaped fs cs q.0 q.1)

-- gathered and dealt out again
pub dealt_again : (os : List Origin) (cs : List Cell) → Shaped os cs → cells os (values_in os cs) (digits_in os cs) ≡ cs
dealt_again [] [] h = refl
dealt_again [] (c ∷ cs) h = absurd h
dealt_again (o ∷ os) [] h = absurd h
dealt_again (of_book ∷ os) (None ∷ cs) h = ap (λ l. None ∷ l) (dealt_again os cs h.1)
dealt_again (of_book ∷ os) (Some v ∷ cs) h = absurd h.0
dealt_again (entered p ∷ os) (None ∷ cs) h = absurd h.0
dealt_again (entered p ∷ os) (Some v ∷ cs) h = ap (λ l. Some v ∷ l) (dealt_again os cs h.1)
dealt_again (reckoned s k ∷ os) (None ∷ cs) h = absurd h.0
dealt_again (reckoned s k ∷ os) (Some (num n) ∷ cs) h = ap (λ l. Some (num n) ∷ l) (dealt_again os cs h.1)
dealt_again (reckoned s k ∷ os) (Some (txt t) ∷ cs) h = absurd h.0

-- dealt out and gathered again
pub gathered : (os : List Origin) (vs : List Value) (ws : List ℕ) → Shaped os (cells os vs ws) → (values_in os (cells os vs ws) ≡ vs) × (digits_in os (cells os vs ws) ≡ ws)
gathered [] [] [] h = (refl, refl)
gathered [] [] (n ∷ ws) h = absurd h
gathered [] (v ∷ vs) ws h = absurd h
gathered (of_book ∷ os) vs ws h = gathered os vs ws h.1
gathered (entered p ∷ os) [] ws h = absurd h.0
gathered (entered p ∷ os) (v ∷ vs) ws h = let r = gathered os vs ws h.1 in (ap (λ l. v ∷ l) r.0, r.1)
gathered (reckoned s k ∷ os) vs [] h = absurd h.0
gathered (reckoned s k ∷ os) vs (n ∷ ws) h = let r = gathered os vs ws h.1 in (r.0, ap (λ l. n ∷ l) r.1)

-- what was read is what 31 asks for
as_many : (os : List Origin) (cs : List Cell) → Shaped os cs → length (sorts_asked os) ≡ length (values_in os cs)
as_many [] [] h = refl
as_many [] (c ∷ cs) h = absurd h
as_many (o ∷ os) [] h = absurd h
as_many (of_book ∷ os) (c ∷ cs) h = as_many os cs h.1
as_many (entered p ∷ os) (None ∷ cs) h = absurd h.0
as_many (entered p ∷ os) (Some v ∷ cs) h = ap suc (as_many os cs h.1)
as_many (reckoned s k ∷ os) (c ∷ cs) h = as_many os cs h.1

none_other : (n : ℕ) (os : List Origin) (cs : List Cell) → Shaped os cs → first_other n (sorts_asked os) (values_in os cs) ≡ None
none_other n [] [] h = refl
none_other n [] (c ∷ cs) h = absurd h
none_other n (o ∷ os) [] h = absurd h
none_other n (of_book ∷ os) (c ∷ cs) h = none_other n os cs h.1
none_other n (entered p ∷ os) (None ∷ cs) h = absurd h.0
none_other n (entered p ∷ os) (Some v ∷ cs) h = rw h.0 (none_other (n + 1) os cs h.1)
none_other n (reckoned s k ∷ os) (c ∷ cs) h = none_other n os cs h.1

pub none_wrong : (os : List Origin) (cs : List Cell) → Shaped os cs → wrong_value (sorts_asked os) (values_in os cs) ≡ None
none_wrong os cs h = rw (eq-eqb _ _ (as_many os cs h)) (none_other 1 os cs h)

-- two lists of contents that differ in worked fields only
abbrev pub AlikeAt : Origin → Cell → Cell → Type 0
AlikeAt of_book c d = c ≡ d
AlikeAt (entered p) c d = c ≡ d
AlikeAt (reckoned s k) c d = Unit {0}

abbrev pub Alike : List Origin → List Cell → List Cell → Type 0
Alike [] cs ds = Unit {0}
Alike (o ∷ os) [] ds = ⊥
Alike (o ∷ os) (c ∷ cs) [] = ⊥
Alike (o ∷ os) (c ∷ cs) (d ∷ ds) = AlikeAt o c d × Alike os cs ds

pub alike : (os : List Origin) (vs : List Value) (ws us : List ℕ) → Alike os (cells os vs ws) (cells os vs us)
alike [] vs ws us = tt
alike (of_book ∷ os) vs ws us = (refl, alike os vs ws us)
alike (entered p ∷ os) [] ws us = (refl, alike os [] ws us)
alike (entered p ∷ os) (v ∷ vs) ws us = (refl, alike os vs ws us)
alike (reckoned s k ∷ os) vs [] [] = (tt, alike os vs [] [])
alike (reckoned s k ∷ os) vs [] (m ∷ us) = (tt, alike os vs [] us)
alike (reckoned s k ∷ os) vs (n ∷ ws) [] = (tt, alike os vs ws [])
alike (reckoned s k ∷ os) vs (n ∷ ws) (m ∷ us) = (tt, alike os vs ws us)

quiet : (o : Origin) (c d : Cell) (g : Cell → Option Fault) → AlikeAt o c d → g c ≡ None → unworked o (g d) ≡ None
quiet of_book c d g a h = ap g (sym a) ∙ h
quiet (entered p) c d g a h = ap g (sym a) ∙ h
quiet (reckoned s k) c d g a h = refl

pub all_printed : (fs : List Field) (cs ds : List Cell) (bs : List ℕ) → Alike (origins fs) cs ds → write_cells fs cs ≡ Ok bs → unprinted fs ds ≡ None
all_printed [] cs ds bs a e = refl
all_printed (f ∷ fs) [] ds bs a e = absurd a
all_printed (f ∷ fs) (c ∷ cs) [] bs a e = absurd a
all_printed (f ∷ fs) (c ∷ cs) (d ∷ ds) bs a e =
    let p = then_ok (at_field f (write_field f c)) _ bs e in
    let q = then_ok (write_cells fs cs) _ bs p.2 in
    none_two _ _ (quiet (origin f) c d (λ x. fault_in (at_field f (write_field f x))) a.0 (fault_ok _ p.0 p.1)) (all_printed fs cs ds q.0 a.1 q.1)

-- the worked fields print
abbrev pub FitAt : Origin → Field → Cell → Type 0
FitAt of_book f c = Unit {0}
FitAt (entered p) f c = Unit {0}
FitAt (reckoned s k) f c = (b : List ℕ) × (write_field f c ≡ Ok b)

abbrev pub WorkedAt : Origin → Field → (List Cell → Type 0) → List Cell → Type 0
WorkedAt o f Rest [] = ⊥
WorkedAt o f Rest (c ∷ cs) = FitAt o f c × Rest cs

abbrev pub WorkedFit : List Field → List Cell → Type 0
WorkedFit [] [] = Unit {0}
WorkedFit [] (c ∷ cs) = ⊥
WorkedFit (f ∷ fs) cs = WorkedAt (origin f) f (WorkedFit fs) cs

loud : (o : Origin) (f : Field) (c d : Cell) → AlikeAt o c d → FitAt o f c → unworked o (fault_in (at_field f (write_field f d))) ≡ None → (b : List ℕ) × (write_field f c ≡ Ok b)
loud of_book f c d a w h = let p = ok_fault (at_field f (write_field f d)) h in (p.0, ap (write_field f) a ∙ at_ok f _ _ p.1)
loud (entered p) f c d a w h = let p = ok_fault (at_field f (write_field f d)) h in (p.0, ap (write_field f) a ∙ at_ok f _ _ p.1)
loud (reckoned s k) f c d a w h = w

pub prints_all : (fs : List Field) (cs ds : List Cell) → Alike (origins fs) cs ds → WorkedFit fs cs → unprinted fs ds ≡ None → (bs : List ℕ) × (write_cells fs cs ≡ Ok bs)
prints_all [] [] ds a w h = ([], refl)
prints_all [] (c ∷ cs) ds a w h = absurd w
prints_all (f ∷ fs) [] ds a w h = absurd w
prints_all (f ∷ fs) (c ∷ cs) [] a w h = absurd a
prints_all (f ∷ fs) (c ∷ cs) (d ∷ ds) a w h =
    let n = two_none (unworked (origin f) (fault_in (at_field f (write_field f d)))) (unprinted fs ds) h in
    let p = loud (origin f) f c d a.0 w.0 n.0 in
    let q = prints_all fs cs ds a.1 w.1 n.1 in
    (p.0 ++ q.0, ok_then (at_field f (write_field f c)) _ p.0 (p.0 ++ q.0) (ok_at f _ _ p.1) (ok_then (write_cells fs cs) _ q.0 (p.0 ++ q.0) q.1 refl))
