-- The kind that a mark finds.
use Rattle.std.proofs.Common.{◌≡◌, ℕ, eqb, List, [], ◌∷◌, IfOk, sym, ⊎_elim}
use Rattle.std.specs.Option.{ok_or}
use Rattle.std.proofs.lemmas.Bool.{cases_Bool, eqb-true}
use Rattle.layouts.specs.Layout.{Layout, Kind, found}
use Rattle.layouts.specs.Meaning.{kind_in, kind_marked}

found_one : {E : Type 0} (m : ℕ) (ks : List Kind) (e : E) → IfOk (ok_or (kind_in (found m ks)) e) (λ kind. kind.mark ≡ m)
found_one m [] e = tt
found_one m (k ∷ ks) e =
    ⊎_elim
    (λ t. rw t (sym (eqb-true m k.mark t)))
    (λ f. rw f (found_one m ks e))
    (cases_Bool (eqb m k.mark))

pub marked : {E : Type 0} (l : Layout) (m : ℕ) (e : E) → IfOk (ok_or (kind_marked l m) e) (λ kind. kind.mark ≡ m)
marked l m e = found_one m l.kinds e
