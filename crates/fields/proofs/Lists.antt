-- A look into a list of codes or of words, as the library answers it.
use Rattle.std.proofs.Common.{◌≡◌, ℕ, eqb, nat_eq, List, [], ◌∷◌, Bor, map, refl, arith}
use Rattle.std.specs.List.{list_any}
use Rattle.std.proofs.lemmas.Bool.Decides.{nat_tests}
use lib.Pointwise.{pointwise}
use Rattle.fields.specs.Field.{any_of, same, one_of}

same_either : (a b : ℕ) → eqb a b ≡ eqb b a
same_either a b = grind (arith, nat_tests)

pub any_code : (cs : List ℕ) (n : ℕ) → list_any (λ c. nat_eq c n) cs ≡ any_of cs n
any_code [] n = refl
any_code (c ∷ cs) n = rw (same_either c n, any_code cs n)

pub same_texts : (u t : List ℕ) → pointwise nat_eq u t ≡ same u t
same_texts [] [] = refl
same_texts [] (b ∷ t) = refl
same_texts (a ∷ u) [] = refl
same_texts (a ∷ u) (b ∷ t) = rw (same_texts u t)

pub any_word : (ws : List (Bor (List ℕ))) (t : List ℕ) → list_any (λ w. pointwise nat_eq w.now t) ws ≡ one_of (map (λ w. w.now) ws) t
any_word [] t = refl
any_word (w ∷ ws) t = rw (same_texts w.now t, any_word ws t)
