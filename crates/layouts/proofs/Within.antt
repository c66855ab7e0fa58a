-- What the laws give of one field: it lies within its row. And a field as the code reads it is a field of the meaning.
use Rattle.std.proofs.Common.{◌≡◌, ℕ, zero, suc, ◌+◌, ◌<◌, ◌≤◌, true, false, cond, eqb, List, [], ◌∷◌, map, length, get_or, Some, Option, sym, refl, ap, ◌∙◌, subst, le_of_suc-le-suc, not-suc-le-zero, arith, lit≤, Bor}
use lib.ListN.{length-map}
use Rattle.std.specs.List.{AllByRecursion}
use Rattle.std.proofs.ByRecursion.{All-weaker}
use Rattle.std.proofs.iter.Yields.{fronts}
use Rattle.std.proofs.lemmas.Iterator.{zips}
use Rattle.std.proofs.lemmas.Slice.Zip.{zip_turn}
use Rattle.std.specs.declared.iter.Zip.{Zip}
use Rattle.std.specs.declared.slice.Iter.{Iter}
use Rattle.std.specs.Iterator.{Yields}
use Rattle.std.specs.Iterator.Adapters.{zip_first, zip_second}
use Rattle.std.specs.Slice.Iter.{iter_rest}
use Rattle.fields.specs.Field as s
use Rattle.fields.specs.Meaning.{field_of}
use Rattle.fields.specs.declared.field.Field.{Field}
use Rattle.fields.specs.declared.field.Sort.TheVariants.{Constant}
use Rattle.layouts.specs.Layout.{Layout, Kind, field_at, no_kind, found, or_none, kind_of}
use Rattle.layouts.specs.Lawful.{Covers, LawfulKind, Lawful}

pub record Inside (f : s.Field) : Type 0 where
  pub from : 1 ≤ f.start
  pub to : f.start + f.width ≤ 751

-- no field starts past the row
starts : (p : ℕ) (fs : List s.Field) → Covers p fs → p ≤ 751
starts p [] e = omega arith
starts p (f ∷ fs) c = let next = starts (p + f.width) fs c.1 in omega arith

covers_at : (p : ℕ) (fs : List s.Field) → 1 ≤ p → Covers p fs → (i : ℕ) → i < length fs → Inside (field_at fs i)
covers_at p [] h c i less = absurd (not-suc-le-zero less)
covers_at p (f ∷ fs) h c zero less =
    let e = c.0 in
    let next = starts (p + f.width) fs c.1 in
    record { from = omega arith; to = omega arith }
covers_at p (f ∷ fs) h c (suc i) less = covers_at (p + f.width) fs (omega arith) c.1 i (le_of_suc-le-suc less)

-- what holds of every kind of the book, and of no kind, holds of the kind with a mark
kind_with_lem : (P : Kind → Type 0) → P no_kind → (ks : List Kind) → AllByRecursion P ks → (m : ℕ) → P (or_none (found m ks))
kind_with_lem P none [] all m = none
kind_with_lem P none (k ∷ ks) all m =
    elim (eqb m k.mark) as (λ b. P (or_none (cond b (Some k) (found m ks)))) [ true ↦ all.0 | false ↦ kind_with_lem P none ks all.1 m ]

pub field_inside : (l : Layout) → Lawful l → (m i : ℕ) → i < length (kind_of l m).fields → Inside (field_at (kind_of l m).fields i)
field_inside l w m =
    let Fields : Kind → Type 0 = λ k. (i : ℕ) → i < length k.fields → Inside (field_at k.fields i) in
    kind_with_lem Fields
    (λ i less. absurd (not-suc-le-zero less))
    l.kinds
    (All-weaker (LawfulKind l) Fields (λ k law. covers_at 1 k.fields (lit≤ tt) law.covers) l.kinds w.kinds)
    m

-- what a read past the last field is taken to give
abbrev pub unread : Field
unread = record { start = 0; width = 0; sort = Constant (record { ref_ptr = (0, 0); now = [] }); required = false }

read_at : (xs : List Field) (i : ℕ) (d : Field) → i < length xs → field_of (get_or xs i d) ≡ field_at (map field_of xs) i
read_at [] i d less = absurd (not-suc-le-zero less)
read_at (x ∷ xs) zero d less = refl
read_at (x ∷ xs) (suc i) d less = read_at xs i d (le_of_suc-le-suc less)

pub field_is : (xs : List Field) (ys : List s.Field) → map field_of xs ≡ ys → (i : ℕ) (d : Field) → i < length xs → field_of (get_or xs i d) ≡ field_at ys i
field_is xs ys e i d less = read_at xs i d less ∙ ap (λ zs. field_at zs i) e

pub as_many : (xs : List Field) (ys : List s.Field) → map field_of xs ≡ ys → length xs ≡ length ys
as_many xs ys e = sym (length-map xs field_of) ∙ ap length e

-- the law at a field as the code reads it
pub read_inside : (l : Layout) → Lawful l → (m : ℕ) (xs : List Field) → map field_of xs ≡ (kind_of l m).fields → (i : ℕ) (d : Field) → i < length xs → Inside (field_of (get_or xs i d))
read_inside l w m xs e i d less =
    let ys = (kind_of l m).fields in
    let within : i < length ys = omega (arith, as_many xs ys e) in
    subst (λ (f : s.Field). Inside f) (sym (field_is xs ys e i d less)) (field_inside l w m i within)

-- the law at the field of a pair, in a loop over the fields and their names
pub paired_inside : {X : Type 0} (l : Layout) → Lawful l → (m : ℕ) (fs : List Field) (ns : List X) → map field_of fs ≡ (kind_of l m).fields →
    (xs : List (Bor Field × Bor X)) (s t u : Zip (Iter Field) (Iter X)) (r : Option (Bor Field × Bor X)) → iter_rest (zip_first s) ≡ fs → iter_rest (zip_second s) ≡ ns → Yields (zips fronts fronts) s xs t →
    (p : Bor Field × Bor X) → r ≡ Some p → zips fronts fronts t r u → Inside (field_of p.0.now)
paired_inside l w m fs ns e xs s t u r first second y p is step =
    let turn = zip_turn fs ns xs s t u r first second y p is step in
    subst (λ (f : Field). Inside (field_of f)) (sym (turn.2 unread)) (read_inside l w m fs e (length xs) unread turn.0)
