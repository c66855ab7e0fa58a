-- The first refusal of a list, found one check after the other.
use Rattle.std.proofs.Common.{◌≡◌, List, ◌∷◌, Some, None, Option}
use Rattle.refusals.specs.Faults.{first_some}

-- the next check refuses
pub here : {F : Type 0} (x : F) (o : Option F) (rest : List (Option F)) → Some x ≡ o → Some x ≡ first_some (o ∷ rest)
here x o rest e = rw (← e)

-- it passes
pub skip : {F : Type 0} (x o : Option F) (rest : List (Option F)) → None ≡ o → x ≡ first_some rest → x ≡ first_some (o ∷ rest)
skip x o rest p e = rw (← p) e
