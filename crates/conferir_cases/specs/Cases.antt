-- How a list of cases comes apart.
use Rattle.std.specs.Prelude.{◌≡◌, ℕ, List, ◌∷◌, ◌++◌}

-- a length, LF, and what comes after it
pub record Headed (bytes behind : List ℕ) : Type 0 where
  pub digits : List ℕ
  pub whole : bytes ≡ digits ++ (10 ∷ behind)

-- a length, LF, the input, LF, and what comes after it
pub record Parts (bytes input rest : List ℕ) : Type 0 where
  pub digits : List ℕ
  pub whole : bytes ≡ digits ++ (10 ∷ (input ++ (10 ∷ rest)))
