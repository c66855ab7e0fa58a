-- The worked fields: what they must hold fits them, and is what they hold where none is wrong.
use Rattle.std.proofs.Common.{◌≡◌, ℕ, ◌+◌, ◌^◌, ◌<◌, ◌≤◌, Bool, true, cond, not, ◌&&◌, eqb, List, [], ◌∷◌, ◌++◌, length, Some, None, Ok, Option, refl, subst, arith}
use native.Mathlib.Nat.{pow-le-pow_right}
use Rattle.std.specs.List.{AllByRecursion}
use Rattle.std.proofs.lemmas.List.{length_push}
use Rattle.std.proofs.lemmas.Grind.{common_steps}
use Rattle.std.proofs.lemmas.Bool.{lt-ltb}
use Rattle.refusals.specs.Faults.{Fault, fault}
use Rattle.fields.specs.Field.{Field, Sort, constant, blank, text, word, number, code, date, amount, long, worked, Working, number_of_row, number_of_owner, total, count, Value, num, Cell, family, fits, write_field}
use Rattle.numbers.specs.Digits.{printed}
use Rattle.layouts.specs.Layout.{Layout, Group}
use Rattle.layouts.specs.Lawful.{WorkedWide, Wide}
use Rattle.records.specs.Cells.{Origin, of_book, entered, reckoned, origin_at, origin, origins, cells, sorts_asked}
use Rattle.records.specs.Row.{Entry}
use Rattle.records.proofs.Cells.{Shaped, WorkedAt, WorkedFit}
use Rattle.records.specs.Worked.{reckoned_by}
use Rattle.legality.specs.Before.{last_place, owner_place, count_of, reckon, sum_of}
use Rattle.legality.specs.Checks.{first_wrong, is_number, is_total, is_count}

pub last_within : (m : ℕ) (es : List Entry) → last_place m es ≤ length es
last_within m [] = omega arith
last_within m (e ∷ es) = grind (arith, common_steps, last_within m es)

owner_within : (g : Option Group) (es : List Entry) → owner_place g es ≤ length es
owner_within None es = omega arith
owner_within (Some g) es = last_within g.owner es

pub count_within : (ms : List ℕ) (es : List Entry) → count_of ms es ≤ length es
count_within ms [] = omega arith
count_within ms (e ∷ es) = grind (arith, common_steps, count_within ms es)

-- every reckoned number fits a field of its width
pub reckon_fits : (l : Layout) (before : List Entry) (e : Entry) → length before + 1 ≤ 65535 → sum_of l (before ++ e ∷ []) < 10 ^ 17 → (k : Working) (w : ℕ) → WorkedWide k w → reckon l before e k < 10 ^ w
reckon_fits l before e n s number_of_row w h = rw h (omega arith)
reckon_fits l before e n s number_of_owner w h = rw h (omega (arith, owner_within l.group before))
reckon_fits l before e n s total w h = rw h s
reckon_fits l before e n s count w h =
    let c = count_within l.counted (before ++ e ∷ []) in
    let p : 10 ^ 6 ≤ 10 ^ w = pow-le-pow_right {n = 10} (omega arith) h.0 in
    omega (arith, c, p, length_push before e)

module _ (r : Working → ℕ) (small : (k : Working) (w : ℕ) → WorkedWide k w → r k < 10 ^ w) where
  prints_number : (a s : ℕ) (t : Sort) (f : Field) → f.sort ≡ t → Wide t f.width → fits f ≡ true → (k : Working) → origin_at a (family t) ≡ reckoned s k → (b : List ℕ) × (write_field f (Some (num (r k))) ≡ Ok b)
  prints_number a s (worked j) f e w g k o =
      let same : j ≡ k = cc in
      let less : r k < 10 ^ f.width = small k f.width (subst (λ x. WorkedWide x f.width) same w) in
      (printed f.width (r k), rw (g, e, lt-ltb (r k) (10 ^ f.width) less))
  prints_number a s (constant c) f e w g k o = absurd (cc)
  prints_number a s blank f e w g k o = absurd (cc)
  prints_number a s text f e w g k o = absurd (cc)
  prints_number a s (word us) f e w g k o = absurd (cc)
  prints_number a s number f e w g k o = absurd (cc)
  prints_number a s (code cs) f e w g k o = absurd (cc)
  prints_number a s date f e w g k o = absurd (cc)
  prints_number a s amount f e w g k o = absurd (cc)
  prints_number a s long f e w g k o = absurd (cc)

  fit_next : (o : Origin) (f : Field) (os : List Origin) (Rest : List Cell → Type 0) → origin f ≡ o → Wide f.sort f.width → fits f ≡ true → ((vs : List Value) → length (sorts_asked os) ≡ length vs → Rest (cells os vs (reckoned_by r os))) → (vs : List Value) → length (sorts_asked (o ∷ os)) ≡ length vs → WorkedAt o f Rest (cells (o ∷ os) vs (reckoned_by r (o ∷ os)))
  fit_next of_book f os Rest e w g more vs h = (tt, more vs h)
  fit_next (entered p) f os Rest e w g more [] h = absurd (omega (arith, h))
  fit_next (entered p) f os Rest e w g more (v ∷ vs) h = (tt, more vs (omega (arith, h)))
  fit_next (reckoned s k) f os Rest e w g more vs h = (prints_number f.start s f.sort f refl w g k e, more vs h)

  pub worked_fit : (fs : List Field) → AllByRecursion (λ f. Wide f.sort f.width) fs → AllByRecursion (λ f. fits f ≡ true) fs → (vs : List Value) → length (sorts_asked (origins fs)) ≡ length vs → WorkedFit fs (cells (origins fs) vs (reckoned_by r (origins fs)))
  worked_fit [] w g [] h = tt
  worked_fit [] w g (v ∷ vs) h = absurd (omega (arith, h))
  worked_fit (f ∷ fs) w g vs h = fit_next (origin f) f (origins fs) (WorkedFit fs) refl w.0 g.0 (worked_fit fs w.1 g.1) vs h

-- none is wrong where they hold what was reckoned
pub none_wrong : (j : ℕ) (looked : Working → Bool) (r : Working → ℕ) (os : List Origin) → first_wrong j looked r os (reckoned_by r os) ≡ None
none_wrong j looked r [] = refl
none_wrong j looked r (of_book ∷ os) = none_wrong j looked r os
none_wrong j looked r (entered p ∷ os) = none_wrong j looked r os
none_wrong j looked r (reckoned s k ∷ os) = grind (arith, common_steps, none_wrong j looked r os)

right_at : (k : Working) (n x s : ℕ) (a b c : Option Fault) →
    cond (is_number k && not (eqb n x)) (Some (fault 23 s)) a ≡ None → cond (is_total k && not (eqb n x)) (Some (fault 24 s)) b ≡ None → cond (is_count k && not (eqb n x)) (Some (fault 25 s)) c ≡ None →
    (n ≡ x) × (a ≡ None) × (b ≡ None) × (c ≡ None)
right_at number_of_row n x s a b c p q t = (grind (arith, common_steps), grind (arith, common_steps), q, t)
right_at number_of_owner n x s a b c p q t = (grind (arith, common_steps), grind (arith, common_steps), q, t)
right_at total n x s a b c p q t = (grind (arith, common_steps), p, grind (arith, common_steps), t)
right_at count n x s a b c p q t = (grind (arith, common_steps), p, q, grind (arith, common_steps))

-- and where none is wrong they hold it
pub all_right : (r : Working → ℕ) (os : List Origin) (vs : List Value) (ws : List ℕ) → Shaped os (cells os vs ws) →
    first_wrong 23 is_number r os ws ≡ None → first_wrong 24 is_total r os ws ≡ None → first_wrong 25 is_count r os ws ≡ None → ws ≡ reckoned_by r os
all_right r [] [] [] h a b c = refl
all_right r [] [] (n ∷ ws) h a b c = absurd h
all_right r [] (v ∷ vs) ws h a b c = absurd h
all_right r (of_book ∷ os) vs ws h a b c = all_right r os vs ws h.1 a b c
all_right r (entered p ∷ os) [] ws h a b c = absurd h.0
all_right r (entered p ∷ os) (v ∷ vs) ws h a b c = all_right r os vs ws h.1 a b c
all_right r (reckoned s k ∷ os) vs [] h a b c = absurd h.0
all_right r (reckoned s k ∷ os) vs (n ∷ ws) h a b c =
    let p = right_at k n (r k) s _ _ _ a b c in
    cc (p.0, all_right r os vs ws h.1 p.1 p.2 p.3)
