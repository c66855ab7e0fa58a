-- Lines joined one after the other: where each lies, and that a form's lines and rows are each other's.
use Rattle.std.proofs.Common.{◌≡◌, ℕ, zero, suc, ◌+◌, ◌-◌, ◌*◌, ◌/◌, ◌%◌, ◌<◌, ◌≤◌, min, Bool, true, List, [], ◌∷◌, ◌++◌, length, get_or, take, drop, Ok, Err, Result, sym, ap, ◌∙◌, subst, ⊎_elim, add-mul, mul-div_cancel, arith}
use native.Mathlib.Nat.{mul-mod_left}
use Rattle.std.specs.List.{flat_map}
use Rattle.std.proofs.lemmas.List.{same_lists, ext_get_or, append_assoc, length-append, length-drop, length-take-le, take_all, take_at, drop_at, drop-drop, take-append-drop, get_or_append_left, get_or-append-add, get_or-take, get_or-drop, get_or_default}
use Rattle.std.proofs.lemmas.Bool.{cases_lt}
use Rattle.std.proofs.lemmas.Nat.{div-add-mod', mod_below, mod-mul-add, mul-le}
use Rattle.rows.specs.Lines.{line_at, rows_of, opened, Whole, OfBytes, Formed}
use Rattle.rows.specs.Laws.{FormLaw}
use Rattle.rows.specs.Whole.{length-rows_of, get_or-rows_of, length-line_at, next_line, lines_fit, line_fits, rows_of_all}
use Rattle.refusals.specs.declared.carrier.CarrierFault.{CarrierFault}
use Rattle.rows.specs.Rows.{put_all, Moved, MovedBytes, laid, Laid}

-- each row's line has `size` bytes
abbrev pub Filled : (List ℕ → List ℕ) → ℕ → List (List ℕ) → Type 0
Filled line size rows = (k : ℕ) → k < length rows → length (line (get_or rows k [])) ≡ size

tail : (line : List ℕ → List ℕ) (size : ℕ) (r : List ℕ) (rs : List (List ℕ)) → Filled line size (r ∷ rs) → Filled line size rs
tail line size r rs f = λ k h. f (suc k) (omega arith)

pub length-lines : (line : List ℕ → List ℕ) (size : ℕ) (rows : List (List ℕ)) → Filled line size rows → length (flat_map line rows) ≡ length rows * size
length-lines line size [] f = omega arith
length-lines line size (r ∷ rs) f =
    omega (arith, length-append (line r) (flat_map line rs), length-lines line size rs (tail line size r rs f), f 0 (omega arith), next_line (length rs) size)

-- byte p of line k
at_line : (line : List ℕ → List ℕ) (size : ℕ) (rows : List (List ℕ)) → Filled line size rows → (k p : ℕ) → k < length rows → p < size → get_or (flat_map line rows) (k * size + p) 0 ≡ get_or (line (get_or rows k [])) p 0
at_line line size [] f k p h lt = absurd (omega arith)
at_line line size (r ∷ rs) f zero p h lt =
    let z : 0 * size + p ≡ p = omega arith in
    ap (λ i. get_or (line r ++ flat_map line rs) i 0) z ∙ get_or_append_left (line r) (flat_map line rs) 0 p (omega (arith, f 0 (omega arith)))
at_line line size (r ∷ rs) f (suc k) p h lt =
    let z : suc k * size + p ≡ length (line r) + (k * size + p) = omega (arith, f 0 (omega arith), next_line k size) in
    ap (λ i. get_or (line r ++ flat_map line rs) i 0) z ∙ get_or-append-add (line r) (flat_map line rs) (k * size + p) 0 ∙ at_line line size rs (tail line size r rs f) k p (omega arith) lt

-- the line of byte i
line_of : (size i n : ℕ) → 0 < size → i < n * size → i / size < n
line_of size i n pos h =
    ⊎_elim (λ lt. lt) (λ le. absurd (omega (arith, mul-le n size (i / size) size le (omega arith), div-add-mod' i size))) (cases_lt (i / size) n)

pub byte_of : (line : List ℕ → List ℕ) (size : ℕ) (rows : List (List ℕ)) → Filled line size rows → 0 < size → (i : ℕ) → i < length (flat_map line rows) → get_or (flat_map line rows) i 0 ≡ get_or (line (get_or rows (i / size) [])) (i % size) 0
byte_of line size rows f pos i h =
    ap (λ j. get_or (flat_map line rows) j 0) (sym (div-add-mod' i size)) ∙ at_line line size rows f (i / size) (i % size) (line_of size i (length rows) pos (omega (arith, length-lines line size rows f))) (mod_below i size pos)

-- rows put down from line `held` on lie there, and every other byte is as it was
pub put_lines : (size : ℕ) (line : List ℕ → List ℕ) (rows : List (List ℕ)) → Filled line size rows → (memory : List ℕ) (held : ℕ) → (held + length rows) * size ≤ length memory → put_all size line memory held rows ≡ take (held * size) memory ++ (flat_map line rows ++ drop ((held + length rows) * size) memory)
put_lines size line [] f memory held fits =
    sym (ap (λ k. take (held * size) memory ++ drop (k * size) memory) (omega arith) ∙ take-append-drop (held * size) memory)
put_lines size line (r ∷ rs) f memory held fits =
    let front = take (held * size) memory in
    let back = drop (held * size + size) memory in
    let after = front ++ (line r ++ back) in
    let n = next_line held size in
    let len : length (line r) ≡ size = f 0 (omega arith) in
    let count : held + 1 + length rs ≡ held + suc (length rs) = omega arith in
    let room : (held + 1 + length rs) * size ≤ length memory = rw count fits in
    let below : (held + 1) * size ≤ (held + 1 + length rs) * size = mul-le (held + 1) size (held + 1 + length rs) size (omega arith) (omega arith) in
    let lf : length front ≡ held * size = length-take-le (held * size) memory (omega arith) in
    let joint : length (front ++ line r) ≡ (held + 1) * size = omega (arith, length-append front (line r)) in
    let whole : after ≡ (front ++ line r) ++ back = sym (append_assoc front (line r) back) in
    let same : length after ≡ length memory = omega (arith, ap length whole, length-append (front ++ line r) back, length-drop (held * size + size) memory) in
    let more = put_lines size line rs (tail line size r rs f) after (held + 1) (omega arith) in
    let first : take ((held + 1) * size) after ≡ front ++ line r = ap (take ((held + 1) * size)) whole ∙ take_at (front ++ line r) back ((held + 1) * size) joint in
    let split : (held + 1 + length rs) * size ≡ (held + 1) * size + length rs * size = add-mul (held + 1) (length rs) size in
    let gone : drop ((held + 1) * size) after ≡ back = ap (drop ((held + 1) * size)) whole ∙ drop_at (front ++ line r) back ((held + 1) * size) joint in
    let last : drop ((held + 1 + length rs) * size) after ≡ drop ((held + suc (length rs)) * size) memory =
    ap (λ k. drop k after) split ∙ sym (drop-drop (length rs * size) ((held + 1) * size) after) ∙ ap (drop (length rs * size)) gone ∙ drop-drop (length rs * size) (held * size + size) memory ∙ ap (λ k. drop k memory) (let e : held * size + size + length rs * size ≡ (held + suc (length rs)) * size = omega (arith, ap (λ k. k * size) count) in e) in
    more ∙ ap (λ t. t ++ (flat_map line rs ++ drop ((held + 1 + length rs) * size) after)) first ∙ append_assoc front (line r) _ ∙ ap (λ t. front ++ (line r ++ (flat_map line rs ++ t))) last ∙ ap (λ t. front ++ t) (sym (append_assoc (line r) (flat_map line rs) _))

-- rows put down on an empty carrier are laid from the start of its memory
laid_first : (size : ℕ) (line : List ℕ → List ℕ) (rows : List (List ℕ)) (memory : List ℕ) → Filled line size rows → length rows ≤ length memory / size → put_all size line memory 0 rows ≡ laid size line rows memory
laid_first size line rows memory f room =
    let n : 0 + length rows ≡ length rows = omega arith in
    let z : ◌≡◌ {A = ℕ} (0 * size) 0 = omega arith in
    let fit : (0 + length rows) * size ≤ length memory = rw n (lines_fit (length rows) size (length memory) room) in
    put_lines size line rows f memory 0 fit ∙ ap (λ k. take k memory ++ (flat_map line rows ++ drop ((0 + length rows) * size) memory)) z ∙ ap (λ k. flat_map line rows ++ drop (k * size) memory) n

-- a form whose lines have `size` bytes and go both ways keeps the form law
module _ (size : ℕ) (encoded decoded : List ℕ → List ℕ) (good : ℕ → ℕ → Bool)
    (pos : 0 < size)
    (whole : (l : List ℕ) → length l ≡ size → length (decoded l) ≡ 750)
    (fills : (r : List ℕ) → length r ≡ 750 → length (encoded r) ≡ size)
    (back : (r : List ℕ) → length r ≡ 750 → ((k : ℕ) → get_or r k 0 < 256) → decoded (encoded r) ≡ r)
    (sound : (r : List ℕ) → length r ≡ 750 → ((k : ℕ) → get_or r k 0 < 256) → (p : ℕ) → p < size → good p (get_or (encoded r) p 0) ≡ true)
    (forth : (l : List ℕ) → length l ≡ size → ((p : ℕ) → p < size → good p (get_or l p 0) ≡ true) → encoded (decoded l) ≡ l) where
  pub filled_rows : (rows : List (List ℕ)) → Whole rows → Filled encoded size rows
  filled_rows rows w = λ k h. fills (get_or rows k []) (w k h)

  line_is : (rows : List (List ℕ)) → Whole rows → (k : ℕ) → k < length rows → line_at size (flat_map encoded rows) k ≡ encoded (get_or rows k [])
  line_is rows w k h =
      let f = filled_rows rows w in
      let n = length-lines encoded size rows f in
      let fit : k * size + size ≤ length (flat_map encoded rows) = omega (arith, next_line k size, mul-le (k + 1) size (length rows) size (omega arith) (omega arith)) in
      let len : length (line_at size (flat_map encoded rows) k) ≡ size = length-line_at size (flat_map encoded rows) k fit in
      ext_get_or 0 (line_at size (flat_map encoded rows) k) (encoded (get_or rows k [])) (len ∙ sym (f k h))
      (λ p lt. let in' : p < size = omega (arith, len) in get_or-take size (drop (k * size) (flat_map encoded rows)) p 0 in' ∙ get_or-drop (k * size) (flat_map encoded rows) p 0 ∙ at_line encoded size rows f k p h in')

  pub read_back : (rows : List (List ℕ)) → Whole rows → OfBytes rows → Formed good size (flat_map encoded rows) × (opened decoded size (flat_map encoded rows) ≡ rows)
  read_back rows w small =
      let f = filled_rows rows w in
      let bytes = flat_map encoded rows in
      let n = length-lines encoded size rows f in
      let count : length bytes / size ≡ length rows = ap (λ k. k / size) n ∙ mul-div_cancel (length rows) pos in
      let even : length bytes % size ≡ 0 = ap (λ k. k % size) n ∙ mul-mod_left (length rows) size in
      let len = length-rows_of decoded size (length bytes / size) bytes in (
        (
          λ i h.
              let k = i / size in
              let lt : k < length rows = line_of size i (length rows) pos (omega arith) in
              ap (good (i % size)) (byte_of encoded size rows f pos i h) ∙ sound (get_or rows k []) (w k lt) (small k lt) (i % size) (mod_below i size pos),
          even,
        ),
        same_lists (opened decoded size bytes) rows (len ∙ count)
            (λ k d h.
            let lt : k < length rows = omega (arith, len, count) in
            get_or-rows_of decoded size (length bytes / size) bytes k d (omega arith) ∙ ap decoded (line_is rows w k lt) ∙ back (get_or rows k []) (w k lt) (small k lt) ∙ get_or_default rows k [] d lt),
      )

  pub written_back : (bytes : List ℕ) → Formed good size bytes → Whole (opened decoded size bytes) × (flat_map encoded (opened decoded size bytes) ≡ bytes)
  written_back bytes formed =
      let rows = opened decoded size bytes in
      let w : Whole rows = rows_of_all decoded size whole bytes in
      let f = filled_rows rows w in
      let len = length-rows_of decoded size (length bytes / size) bytes in
      let n : length (flat_map encoded rows) ≡ length bytes = length-lines encoded size rows f ∙ ap (λ k. k * size) len ∙ (let e : length bytes / size * size ≡ length bytes = omega (arith, div-add-mod' (length bytes) size, formed.1) in e) in (
        w,
        ext_get_or 0 (flat_map encoded rows) bytes n
            (λ i h.
            let k = i / size in
            let lt : k < length bytes / size = line_of size i (length bytes / size) pos (omega (arith, div-add-mod' (length bytes) size, formed.1)) in
            let fit : k * size + size ≤ length bytes = line_fits k size (length bytes) lt in
            let ll : length (line_at size bytes k) ≡ size = length-line_at size bytes k fit in
            let cell = λ (p : ℕ) (b : p < size). get_or-take size (drop (k * size) bytes) p 0 b ∙ get_or-drop (k * size) bytes p 0 in
            let fine = λ (p : ℕ) (b : p < size). ap (good p) (cell p b) ∙ good_at bytes formed k p b (omega arith) in
            byte_of encoded size rows f pos i h
            ∙ ap (λ r. get_or (encoded r) (i % size) 0) (get_or-rows_of decoded size (length bytes / size) bytes k [] lt)
            ∙ ap (λ l. get_or l (i % size) 0) (forth (line_at size bytes k) ll fine)
            ∙ cell (i % size) (mod_below i size pos)
            ∙ ap (λ j. get_or bytes j 0) (div-add-mod' i size)),
      )
    where
      good_at : (bytes : List ℕ) → Formed good size bytes → (k p : ℕ) → p < size → k * size + p < length bytes → good p (get_or bytes (k * size + p) 0) ≡ true
      good_at bytes formed k p b h = ap (λ q. good q (get_or bytes (k * size + p) 0)) (sym (mod-mul-add k size p b)) ∙ formed.0 (k * size + p) h

  pushed_back : (memory : List ℕ) (rows : List (List ℕ)) → Whole rows → OfBytes rows → length rows ≤ length memory / size → (put_all size encoded memory 0 rows ≡ laid size encoded rows memory) × (opened decoded size (take (length rows * size) (put_all size encoded memory 0 rows)) ≡ rows)
  pushed_back memory rows w small room =
      let f = filled_rows rows w in
      let is = laid_first size encoded rows memory f room in
      let front = ap (take (length rows * size)) is ∙ take_at (flat_map encoded rows) (drop (length rows * size) memory) (length rows * size) (length-lines encoded size rows f) in
      (is, ap (opened decoded size) front ∙ (read_back rows w small).1)

  pub form_law : FormLaw size encoded decoded good
  form_law = record { read_back = read_back; written_back = written_back; pushed_back = pushed_back }

filled_take : (line : List ℕ → List ℕ) (size : ℕ) (rows : List (List ℕ)) (n : ℕ) → n ≤ length rows → Filled line size rows → Filled line size (take n rows)
filled_take line size rows n le f = λ k h. let lt : k < n = omega (arith, length-take-le n rows le) in ap (λ r. length (line r)) (get_or-take n rows k [] lt) ∙ f k (omega arith)

moved_laid : (size : ℕ) (line : List ℕ → List ℕ) (from start left : List (List ℕ)) (memory after : List ℕ) (r : Result ℕ CarrierFault) → Filled line size from → length start ≡ 0 → Moved from start left (length memory / size) r → MovedBytes size line from (length start) memory after (length left) → Laid size line from memory after r
moved_laid size line from start left memory after (Ok n) f z moved bytes =
    let len : length left ≡ length from = omega (arith, ap length moved.2, length-append start from) in
    let k : length left - length start ≡ length from = omega arith in
    (moved.0, omega (arith, moved.1), bytes ∙ ap (λ h. put_all size line memory h (take (length left - length start) from)) z ∙ ap (put_all size line memory 0) (ap (λ k. take k from) k ∙ take_all (length from) from (omega arith)) ∙ laid_first size line from memory f (omega (arith, moved.1)))
moved_laid size line from start left memory after (Err e) f z moved bytes =
    let places = length memory / size in
    let free : places - length start ≡ places = omega arith in
    let less : places < length from = omega (arith, moved.1) in
    let cut = length-take-le places from (omega arith) in
    let len : length left ≡ places = omega (arith, ap length (moved.2 ∙ ap (λ k. start ++ take k from) free), length-append start (take places from)) in
    let k : length left - length start ≡ places = omega arith in
    (moved.0, less, bytes ∙ ap (λ h. put_all size line memory h (take (length left - length start) from)) z ∙ ap (λ k. put_all size line memory 0 (take k from)) k ∙ laid_first size line (take places from) memory (filled_take line size from places (omega arith) f) (omega arith))

-- a writer that held no row was handed the rows, over memory that its lender calls `lent`, and `back` when the loan ends
pub filled_memory : (size : ℕ) (line row : List ℕ → List ℕ) (from left : List (List ℕ)) (held : ℕ) (memory after lent back : List ℕ) (r : Result ℕ CarrierFault) → Filled line size from → held ≡ 0 → memory ≡ lent → back ≡ after →
    let start = rows_of row size (min held (length memory / size)) memory in
    Moved from start left (length memory / size) r → MovedBytes size line from (length start) memory after (length left) → Laid size line from lent back r
filled_memory size line row from left held memory after lent back r f none same ended moved bytes =
    let n = length-rows_of row size (min held (length memory / size)) memory in
    let done = moved_laid size line from _ left memory after r f (omega arith) moved bytes in
    subst (λ b. Laid size line from b back r) same (subst (λ a. Laid size line from memory a r) (sym ended) done)
