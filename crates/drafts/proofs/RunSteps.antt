-- A run by its first call and the rest.
use Rattle.std.proofs.Common.{◌≡◌, ℕ, true, false, suc, ◌+◌, ◌<◌, ◌≤◌, List, [], ◌∷◌, map, length, get_or, drop, Ok, Err, is_ok, refl, ap, arith}
use Rattle.std.proofs.lemmas.List.{drop_more, drop_all}
use Rattle.refusals.specs.Refusals.{refusal_in, of_draft}
use Rattle.layouts.specs.Layout.{Layout}
use Rattle.drafts.specs.declared.drafts.Draft.{Draft}
use Rattle.drafts.specs.declared.running.Request.{Request}
use Rattle.lives.specs.Drafts.{Called}
use Rattle.drafts.specs.Runs.{Answer, asked_in, accepted, Ran}
use Rattle.drafts.specs.Standing.{Shows}

abbrev pub counted : Answer → ℕ → ℕ
counted (Ok u) n = suc n
counted (Err e) n = n

also : (r : Answer) (n : ℕ) (rs : List Answer) → n ≡ accepted rs → counted r n ≡ accepted (r ∷ rs)
also (Ok u) n rs e = ap suc e
also (Err x) n rs e = e

-- the count as the program keeps it
pub counted_ok : (r : Answer) (a b n : ℕ) → true ≡ is_ok r → b ≡ a + 1 → a + counted r n ≡ b + n
counted_ok (Ok u) a b n t e = omega arith
counted_ok (Err x) a b n t e = absurd (cc)

pub counted_err : (r : Answer) (a b n : ℕ) → false ≡ is_ok r → b ≡ a → a + counted r n ≡ b + n
counted_err (Ok u) a b n f e = absurd (cc)
counted_err (Err x) a b n f e = omega arith

module _ {B C : Type 0} (l : Layout) (rows : C → List (List ℕ)) (places : C → ℕ) where
  pub ran_at : (d e d' : Draft B C) (xs : List Request) (i : ℕ) (x : Request) (r : Answer) (n : ℕ) → i < length xs → Called l {D = Draft B C} (refusal_in of_draft) (Shows l rows places) d (asked_in (get_or xs i x)).call (asked_in (get_or xs i x)).handed r e → Ran l rows places e (map asked_in (drop (i + 1) xs)) n d' → Ran l rows places d (map asked_in (drop i xs)) (counted r n) d'
  ran_at d e d' xs i x r n within called more = rw (drop_more xs i x within) (r ∷ more.0, (e, called, more.1), also r n more.0 more.2)

  pub ran_all : (d : Draft B C) (xs : List Request) (i : ℕ) → length xs ≤ i → Ran l rows places d (map asked_in (drop i xs)) 0 d
  ran_all d xs i past = rw (drop_all i xs past) ([], refl, refl)
