-- Lists of rows that grow by one, and the memory below them.
use Rattle.std.proofs.Common.{◌≡◌, ℕ, ◌+◌, ◌-◌, ◌<◌, ◌≤◌, List, [], ◌∷◌, ◌++◌, length, get_or, take, ap, ◌∙◌, arith}
use Rattle.std.proofs.lemmas.List.{take_more, length-append, length-take-le}
use Rattle.rows.specs.Rows.{put, put_all}

-- the rows held after i more
pub held_now : {X : Type 0} (before mid from : List X) (i : ℕ) → i ≤ length from → mid ≡ before ++ take i from → length mid ≡ length before + i
held_now before mid from i le m = omega (arith, ap length m, length-append before (take i from), length-take-le i from le)

put_last : (size : ℕ) (line : List ℕ → List ℕ) (memory : List ℕ) (held : ℕ) (rows : List (List ℕ)) (r : List ℕ) → put_all size line memory held (rows ++ (r ∷ [])) ≡ put size line (put_all size line memory held rows) (held + length rows) r
put_last size line memory held [] r = ap (λ k. put size line memory k r) (omega arith)
put_last size line memory held (x ∷ rows) r =
    put_last size line (put size line memory held x) (held + 1) rows r ∙ ap (λ k. put size line (put_all size line (put size line memory held x) (held + 1) rows) k r) (omega arith)

-- the memory when row n, from 1, is put down behind those before it; `upto` is n
pub put_more : (size : ℕ) (line : List ℕ → List ℕ) (start mid after : List ℕ) (held now n upto : ℕ) (from : List (List ℕ)) (r d : List ℕ) → upto ≡ n → 0 < n → n ≤ length from → now ≡ held + (n - 1) → mid ≡ put_all size line start held (take (n - 1) from) → r ≡ get_or from (n - 1) d → after ≡ put size line mid now r → after ≡ put_all size line start held (take upto from)
put_more size line start mid after held now n upto from r d u pos le h m e a =
    let z : upto ≡ n - 1 + 1 = omega arith in
    let step = take_more from (n - 1) d (omega arith) in
    let len : now ≡ held + length (take (n - 1) from) = omega (arith, length-take-le (n - 1) from (omega arith)) in
    let p = put_last size line start held (take (n - 1) from) (get_or from (n - 1) d) in
    cc
