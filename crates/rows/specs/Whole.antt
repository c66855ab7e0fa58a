-- Each row that is read has 750 bytes.
use Rattle.std.specs.Prelude.{◌≡◌, ℕ, ◌+◌, ◌*◌, ◌/◌, ◌<◌, ◌≤◌, min, List, [], length, drop, slice_index_or}
use Rattle.std.proofs.Common.{ap, ◌∙◌, add-mul, one-mul, arith}
use Rattle.std.proofs.lemmas.List.{length-take-le, length-drop}
use Rattle.std.proofs.lemmas.List.FromFn.{length-map-range_with_len, get_or-map-range_with_len}
use Rattle.std.proofs.lemmas.Nat.{div-add-mod', mul-le}
use Rattle.rows.specs.Lines.{line_at, rows_of}

-- the first lines of a memory lie within it
pub lines_fit : (k size len : ℕ) → k ≤ len / size → k * size ≤ len
lines_fit k size len h = omega (arith, div-add-mod' len size, mul-le k size (len / size) size h (omega arith))

pub next_line : (k size : ℕ) → (k + 1) * size ≡ k * size + size
next_line k size = add-mul k 1 size ∙ ap (λ n. k * size + n) (one-mul size)

pub line_fits : (k size len : ℕ) → k < len / size → k * size + size ≤ len
line_fits k size len h = omega (arith, lines_fit (k + 1) size len (omega arith), next_line k size)

pub length-rows_of : (row : List ℕ → List ℕ) (size n : ℕ) (bytes : List ℕ) → length (rows_of row size n bytes) ≡ n
length-rows_of row size n bytes = length-map-range_with_len (λ k. row (line_at size bytes k)) 0 n

pub get_or-rows_of : (row : List ℕ → List ℕ) (size n : ℕ) (bytes : List ℕ) (k : ℕ) (d : List ℕ) → k < n → slice_index_or (rows_of row size n bytes) k d ≡ row (line_at size bytes k)
get_or-rows_of row size n bytes k d h = get_or-map-range_with_len (λ j. row (line_at size bytes j)) 0 n k k d h (omega arith)

pub length-line_at : (size : ℕ) (bytes : List ℕ) (k : ℕ) → k * size + size ≤ length bytes → length (line_at size bytes k) ≡ size
length-line_at size bytes k h = length-take-le size (drop (k * size) bytes) (omega (arith, length-drop (k * size) bytes))

-- so many lines that the memory has, one row each
whole_upto : (row : List ℕ → List ℕ) (size : ℕ) → ((l : List ℕ) → length l ≡ size → length (row l) ≡ 750) → (held : ℕ) (bytes : List ℕ) → held ≤ length bytes / size → (k : ℕ) → k < length (rows_of row size held bytes) → length (slice_index_or (rows_of row size held bytes) k []) ≡ 750
whole_upto row size whole held bytes fits k h =
    let n = length-rows_of row size held bytes in
    ap length (get_or-rows_of row size held bytes k [] (omega arith)) ∙ whole (line_at size bytes k) (length-line_at size bytes k (line_fits k size (length bytes) (omega arith)))

pub rows_whole : (row : List ℕ → List ℕ) (size : ℕ) → ((l : List ℕ) → length l ≡ size → length (row l) ≡ 750) → (held : ℕ) (bytes : List ℕ) (k : ℕ) → k < length (rows_of row size (min held (length bytes / size)) bytes) → length (slice_index_or (rows_of row size (min held (length bytes / size)) bytes) k []) ≡ 750
rows_whole row size whole held bytes = whole_upto row size whole (min held (length bytes / size)) bytes (omega arith)

pub rows_of_all : (row : List ℕ → List ℕ) (size : ℕ) → ((l : List ℕ) → length l ≡ size → length (row l) ≡ 750) → (bytes : List ℕ) (k : ℕ) → k < length (rows_of row size (length bytes / size) bytes) → length (slice_index_or (rows_of row size (length bytes / size) bytes) k []) ≡ 750
rows_of_all row size whole bytes = whole_upto row size whole (length bytes / size) bytes (omega arith)
