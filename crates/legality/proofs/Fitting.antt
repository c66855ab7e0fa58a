-- A field of a lawful kind lies in its row and has a width that fits its sort.
use Rattle.std.proofs.Common.{◌≡◌, ℕ, ◌+◌, ◌≤◌, true, List, [], ◌∷◌, length, refl, arith}
use Rattle.std.specs.List.{AllByRecursion}
use Rattle.std.proofs.lemmas.Bool.{le-leb, eq-eqb, and_from}
use Rattle.fields.specs.Field.{Field, Sort, constant, blank, text, word, number, code, date, amount, long, worked, Working, number_of_row, number_of_owner, total, count, wide, wide_worked, fits}
use Rattle.layouts.specs.Layout.{Layout, Kind}
use Rattle.layouts.specs.Lawful.{Covers, Wide, WorkedWide, Contents, LawfulKind}

worked_wide : (k : Working) (w : ℕ) → WorkedWide k w → wide_worked k w ≡ true
worked_wide number_of_row w h = eq-eqb w 6 h
worked_wide number_of_owner w h = eq-eqb w 6 h
worked_wide total w h = eq-eqb w 17 h
worked_wide count w h = and_from _ _ (le-leb 6 w h.0) (le-leb w 18 h.1)

wide_true : (s : Sort) (w : ℕ) → Wide s w → ((c : List ℕ) → s ≡ constant c → length c ≤ w) → wide s w ≡ true
wide_true (constant c) w h fit = le-leb (length c) w (fit c refl)
wide_true blank w h fit = refl
wide_true text w h fit = refl
wide_true (word us) w h fit = refl
wide_true number w h fit = and_from _ _ (le-leb 1 w h.0) (le-leb w 18 h.1)
wide_true (code cs) w h fit = and_from _ _ (le-leb 1 w h.0) (le-leb w 18 h.1)
wide_true date w h fit = eq-eqb w 8 h
wide_true amount w h fit = eq-eqb w 17 h
wide_true long w h fit = eq-eqb w 20 h
wide_true (worked k) w h fit = worked_wide k w h

covers_end : (p : ℕ) (fs : List Field) → Covers p fs → p ≤ 751
covers_end p [] e = omega arith
covers_end p (f ∷ fs) h = omega (arith, covers_end (p + f.width) fs h.1)

all_fit : (p : ℕ) (fs : List Field) → 1 ≤ p → Covers p fs → AllByRecursion (λ f. Wide f.sort f.width) fs → AllByRecursion Contents fs → AllByRecursion (λ f. fits f ≡ true) fs
all_fit p [] one covers wides contents = tt
all_fit p (f ∷ fs) one covers wides contents =
    let end = covers_end (p + f.width) fs covers.1 in (
      and_from _ _ (and_from _ _ (le-leb 1 f.start (omega (arith, covers.0))) (le-leb (f.start + f.width) 751 (omega (arith, covers.0)))) (wide_true f.sort f.width wides.0 (λ c e. (contents.0.constants c e).1)),
      all_fit (p + f.width) fs (omega arith) covers.1 wides.1 contents.1,
    )

pub kind_fits : (l : Layout) (k : Kind) → LawfulKind l k → AllByRecursion (λ f. fits f ≡ true) k.fields
kind_fits l k law = all_fit 1 k.fields (omega arith) law.covers law.widths law.contents
