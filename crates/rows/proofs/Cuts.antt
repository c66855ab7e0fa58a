-- Memory cut into lines of one size: where a line lies, and what a write to one leaves of the others.
use Rattle.std.proofs.Common.{◌≡◌, ℕ, ◌+◌, ◌-◌, ◌*◌, ◌/◌, ◌<◌, ◌≤◌, min, List, [], ◌∷◌, ◌++◌, length, take, drop, sym, ap, ◌∙◌, arith}
use Rattle.std.proofs.lemmas.List.{take-append-le, drop-append-le, length-take-le, length-append, length-drop, take-take, drop-take}
use Rattle.std.proofs.lemmas.List.FromFn.{map-range_with_len_more, fill_by_all}
use Rattle.std.proofs.lemmas.Nat.{mul-le}
use Rattle.std.proofs.lemmas.Grind.{common_steps}
use Rattle.rows.specs.Whole.{next_line, line_fits, length-rows_of, get_or-rows_of}
use Rattle.rows.specs.Lines.{line_at, rows_of, written}

-- a line below the one that is written stays
line_kept : (size : ℕ) (bytes line : List ℕ) (at k : ℕ) → k * size + size ≤ at → at ≤ length bytes → line_at size (written bytes at size line) k ≡ line_at size bytes k
line_kept size bytes line at k below fits =
    let t = take at bytes in
    let rest = line ++ drop (at + size) bytes in
    let len : length t ≡ at = length-take-le at bytes fits in
    let d1 : drop (k * size) (t ++ rest) ≡ drop (k * size) t ++ rest = drop-append-le (k * size) t rest (omega arith) in
    let l1 : length (drop (k * size) t) ≡ length t - k * size = length-drop (k * size) t in
    let t1 : take size (drop (k * size) t ++ rest) ≡ take size (drop (k * size) t) = take-append-le size (drop (k * size) t) rest (omega arith) in
    let cut : drop (k * size) t ≡ take (at - k * size) (drop (k * size) bytes) = ap (λ n. drop (k * size) (take n bytes)) (omega arith) ∙ drop-take (k * size) (at - k * size) bytes in
    ap (take size) d1 ∙ t1 ∙ ap (take size) cut ∙ take-take size (at - k * size) (drop (k * size) bytes) (omega arith)

-- the line that is written is the new one
line_put : (size : ℕ) (bytes line : List ℕ) (k : ℕ) → k * size ≤ length bytes → length line ≡ size → line_at size (written bytes (k * size) size line) k ≡ line
line_put size bytes line k fits len = grind (arith, common_steps)

-- one line more
rows_more : (row : List ℕ → List ℕ) (size held : ℕ) (bytes line r : List ℕ) → held * size + size ≤ length bytes → length line ≡ size → row line ≡ r → rows_of row size (held + 1) (written bytes (held * size) size line) ≡ rows_of row size held bytes ++ (r ∷ [])
rows_more row size held bytes line r fits len back =
    let after = written bytes (held * size) size line in
    let more = map-range_with_len_more (λ k. row (line_at size after k)) 0 held held (omega arith) in
    let kept : rows_of row size held bytes ≡ rows_of row size held after =
    fill_by_all (λ k. row (line_at size after k)) (rows_of row size held bytes) held [] (length-rows_of row size held bytes)
    (λ k h. get_or-rows_of row size held bytes k [] h ∙ ap row (sym (line_kept size bytes line (held * size) k (omega (arith, next_line k size, mul-le (k + 1) size held size (omega arith) (omega arith))) (omega arith)))) in
    let last : row (line_at size after held) ≡ r = ap row (line_put size bytes line held (omega arith) len) ∙ back in
    more ∙ ap (λ xs. xs ++ (row (line_at size after held) ∷ [])) (sym kept) ∙ ap (λ x. rows_of row size held bytes ++ (x ∷ [])) last

pub length-written : (bytes : List ℕ) (at size : ℕ) (line : List ℕ) → at + size ≤ length bytes → length line ≡ size → length (written bytes at size line) ≡ length bytes
length-written bytes at size line fits len =
    let a : length (take at bytes) ≡ at = length-take-le at bytes (omega arith) in
    omega (arith, length-append (take at bytes) (line ++ drop (at + size) bytes), length-append line (drop (at + size) bytes), length-drop (at + size) bytes)

-- a push: the places stay
pub places_kept : (size held : ℕ) (bytes after line : List ℕ) → after ≡ written bytes (held * size) size line → held < length bytes / size → length line ≡ size → length after / size ≡ length bytes / size
places_kept size held bytes after line e h len = ap (λ n. n / size) (ap length e ∙ length-written bytes (held * size) size line (line_fits held size (length bytes) h) len)

-- a push: one row more
pub push_rows : (row : List ℕ → List ℕ) (size held : ℕ) (bytes after line r : List ℕ) → after ≡ written bytes (held * size) size line → held < length bytes / size → length line ≡ size → row line ≡ r → rows_of row size (min (held + 1) (length after / size)) after ≡ rows_of row size (min held (length bytes / size)) bytes ++ (r ∷ [])
push_rows row size held bytes after line r e h len back =
    let p = places_kept size held bytes after line e h len in
    let m : min (held + 1) (length after / size) ≡ held + 1 = omega arith in
    let n : min held (length bytes / size) ≡ held = omega arith in
    ap (λ k. rows_of row size k after) m ∙ ap (rows_of row size (held + 1)) e ∙ rows_more row size held bytes line r (line_fits held size (length bytes) h) len back ∙ ap (λ k. rows_of row size k bytes ++ (r ∷ [])) (sym n)
