-- The first place of a list at which a byte may not stand: every fault of a byte is found by it.
use Rattle.std.specs.Prelude.{ℕ, ◌+◌, Bool, cond, List, [], ◌∷◌, length, Some, None, Ok, Err, Option, Result, nat_lt}
use Rattle.fields.specs.declared.flaws.Flaw.{Flaw}

-- the first bad place, counted from k, or the place after the last
abbrev pub first_bad : (ℕ → ℕ → Bool) → ℕ → List ℕ → ℕ
first_bad bad k [] = k
first_bad bad k (b ∷ bs) = cond (bad k b) k (first_bad bad (k + 1) bs)

abbrev pub some_bad : (ℕ → ℕ → Bool) → List ℕ → Bool
some_bad bad bs = nat_lt (first_bad bad 0 bs) (length bs)

-- the first bad place, where there is one
abbrev pub found : (ℕ → ℕ → Bool) → List ℕ → Option ℕ
found bad bs = cond (some_bad bad bs) (Some (first_bad bad 0 bs)) None

-- the bytes as they are, or the flaw at the first bad place
abbrev pub checked : (ℕ → Flaw) → (ℕ → ℕ → Bool) → List ℕ → Result (List ℕ) Flaw
checked flaw bad bs = cond (some_bad bad bs) (Err (flaw (first_bad bad 0 bs))) (Ok bs)
