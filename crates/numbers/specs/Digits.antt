-- Digits of a number, zeros before it.
use Rattle.std.specs.Prelude.{ℕ, zero, suc, ◌+◌, ◌-◌, ◌*◌, ◌/◌, ◌%◌, ◌^◌, List, [], ◌∷◌, length}

-- the number that digits write
abbrev pub value : List ℕ → ℕ
value [] = 0
value (b ∷ bs) = (b - 48) * 10 ^ length bs + value bs

-- the w lowest digits of n, the highest first
abbrev pub printed : ℕ → ℕ → List ℕ
printed zero n = []
printed (suc w) n = (48 + n / 10 ^ w % 10) ∷ printed w n
