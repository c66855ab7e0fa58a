-- Answers and refusals.
use Rattle.std.proofs.Common.{◌≡◌, ℕ, Bool, true, false, List, [], ◌∷◌, Some, None, Ok, Err, Option, Result, refl, ap}
use Rattle.fields.specs.declared.flaws.Flaw.{Flaw}
use Rattle.refusals.specs.Faults.{Fault, in_row, unless, first_some, fault_in, answer}
use Rattle.fields.specs.Field.{Field}
use Rattle.fields.specs.InRow.{at_field}

pub some_none : {F X : Type 0} {f : F} → Some f ≡ None → X
some_none e = cc

abbrev pub AllNone : {F : Type 0} → List (Option F) → Type 0
AllNone [] = Unit {0}
AllNone (r ∷ rs) = (r ≡ None) × AllNone rs

pub none_all : {F : Type 0} (rs : List (Option F)) → first_some rs ≡ None → AllNone rs
none_all [] e = tt
none_all (None ∷ rs) e = (refl, none_all rs e)
none_all (Some r ∷ rs) e = some_none e

pub all_none : {F : Type 0} (rs : List (Option F)) → AllNone rs → first_some rs ≡ None
all_none [] h = refl
all_none (None ∷ rs) h = all_none rs h.1
all_none (Some r ∷ rs) h = some_none h.0

pub two_none : {F : Type 0} (a b : Option F) → first_some (a ∷ (b ∷ [])) ≡ None → (a ≡ None) × (b ≡ None)
two_none a b e = let h = none_all (a ∷ (b ∷ [])) e in (h.0, h.1.0)

pub none_two : {F : Type 0} (a b : Option F) → a ≡ None → b ≡ None → first_some (a ∷ (b ∷ [])) ≡ None
none_two a b p q = all_none (a ∷ (b ∷ [])) (p, (q, tt))

pub answered : {A F : Type 0} (o : Option F) (x y : A) → answer o x ≡ Ok y → (o ≡ None) × (x ≡ y)
answered None x y e = (refl, cc)
answered (Some f) x y e = cc

pub answers : {A F : Type 0} (o : Option F) (x y : A) → o ≡ None → x ≡ y → answer o x ≡ Ok y
answers None x y e h = ap Ok h
answers (Some f) x y e h = some_none e

pub ok_fault : {A F : Type 0} (r : Result A F) → fault_in r ≡ None → (x : A) × (r ≡ Ok x)
ok_fault (Ok x) e = (x, refl)
ok_fault (Err f) e = some_none e

pub fault_ok : {A F : Type 0} (r : Result A F) (x : A) → r ≡ Ok x → fault_in r ≡ None
fault_ok (Ok y) x e = refl
fault_ok (Err f) x e = cc

pub at_ok : {A : Type 0} (f : Field) (r : Result A Flaw) (x : A) → at_field f r ≡ Ok x → r ≡ Ok x
at_ok f (Ok y) x e = cc
at_ok f (Err h) x e = cc

pub ok_at : {A : Type 0} (f : Field) (r : Result A Flaw) (x : A) → r ≡ Ok x → at_field f r ≡ Ok x
ok_at f (Ok y) x e = cc
ok_at f (Err h) x e = cc

pub no_fault : (n : ℕ) (o : Option Fault) → in_row n o ≡ None → o ≡ None
no_fault n None e = refl
no_fault n (Some f) e = some_none e

pub in_none : (n : ℕ) (o : Option Fault) → o ≡ None → in_row n o ≡ None
in_none n None e = refl
in_none n (Some f) e = some_none e

pub unless_true : {F : Type 0} (b : Bool) (f : F) → unless b f ≡ None → b ≡ true
unless_true true f e = refl
unless_true false f e = some_none e

pub true_unless : {F : Type 0} (b : Bool) (f : F) → b ≡ true → unless b f ≡ None
true_unless b f e = rw e
