-- The law of the line.
use Rattle.std.proofs.Common.{◌≡◌, ℕ, ◌+◌, ◌*◌, ◌/◌, ◌^◌, ◌<◌, ◌≤◌, ◌⊎◌, List, [], length, get_or, take, drop, Some, None, Ok, Err, Option, Result, sym, refl, ap, ◌∙◌, inl, inr, ⊎_elim, arith}
use Rattle.std.specs.List.{flat_map}
use Rattle.std.proofs.ByRecursion.{All-get_or, All-from_get_or}
use Rattle.std.proofs.lemmas.Bool.Decides.{nat_tests}
use Rattle.std.proofs.lemmas.Bool.{cases_lt, lt-ltb}
use Rattle.std.proofs.lemmas.List.{length-map, get_or_past}
use Rattle.std.proofs.lemmas.Nat.{div-add-mod', mul-le}
use Rattle.refusals.specs.declared.table.Refusal.{Refusal}
use Rattle.forms.specs.Forms.{hex_byte, hex_line, unhexed, hex_whole, digit_value}
use Rattle.forms.specs.FormLaws.{hex_fills, hex_back, hex_sound, hex_forth, get_or-unhexed, length-unhexed}
use Rattle.rows.specs.Laws.{FormLaw}
use Rattle.rows.specs.Lines.{line_at, opened, Whole, OfBytes}
use Rattle.rows.specs.Whole.{length-rows_of, get_or-rows_of}
use Rattle.rows.proofs.Joins.{form_law, length-lines}
use Rattle.numbers.specs.Digits.{printed}
use Rattle.fields.specs.Digits.{read_number}
use Rattle.fields.proofs.NumberLaw.{number_law, length-printed}
use Rattle.layouts.specs.Layout.{Layout}
use Rattle.layouts.specs.Lawful.{Lawful}
use Rattle.records.specs.Row.{Entry, entry_of}
use Rattle.legality.specs.Before.{sum_of, rows_of}
use Rattle.legality.specs.File.{Legal, Accepted, accepted, checked}
use Rattle.legality.proofs.Law.{file_law, legal_shows, legal_sum, Sound}
use Rattle.books.specs.declared.letters.Letter.{Letter}
use Rattle.books.specs.Letters.{layout_of}
use Rattle.books.proofs.Laws.{lawful}
use Rattle.verdicts.specs.Input.{Named, named, letter_on, form1, in_names, checked_lines, verdict_on}
use Rattle.verdicts.specs.Printed.{ok_line, no_line, line_of}
use Rattle.verdicts.specs.Conferred.{headed, LegalInput, FirstFault, too_long, no_book, bad_form, bad_file, Conferred}
use Rattle.verdicts.proofs.Breaking.{Found, found, form_kept, form_broken}
use Rattle.verdicts.proofs.Heads.{letter_is, is_headed, of_letter, of_none, of_long}
use Rattle.verdicts.proofs.Bytes.{small_at, row_small}

hexadecimal : FormLaw 1501 hex_line unhexed hex_byte
hexadecimal = form_law 1501 hex_line unhexed hex_byte (omega arith) hex_whole hex_fills hex_back hex_sound hex_forth

-- what lines read as is bytes
value_small : (c : ℕ) → digit_value c < 16
value_small c = grind (arith, nat_tests)

read_small : (line : List ℕ) (i : ℕ) → get_or (unhexed line) i 0 < 256
read_small line i =
    ⊎_elim
    (λ in'. rw (get_or-unhexed line i 0 in') (omega (arith, value_small (get_or line (2 * i) 0), value_small (get_or line (2 * i + 1) 0))))
    (λ past. rw (get_or_past (unhexed line) i 0 (omega (arith, length-unhexed line))) (omega arith))
    (cases_lt i 750)

opened_small : (lines : List ℕ) → OfBytes (opened unhexed 1501 lines)
opened_small lines k h i =
    let n = length-rows_of unhexed 1501 (length lines / 1501) lines in
    rw (get_or-rows_of unhexed 1501 (length lines / 1501) lines k [] (omega arith)) (read_small (line_at 1501 lines k) i)

-- the rows of a legal list are rows of bytes
legal_rows : (l : Layout) → Lawful l → (es : List Entry) → Legal l es → (length (rows_of l es) ≡ length es) × Whole (rows_of l es) × OfBytes (rows_of l es)
legal_rows l law es legal =
    let rows = rows_of l es in
    let s = legal_shows l law es legal in
    let at = λ (k : ℕ) (h : k < length rows). All-get_or (Sound l law) rows k [] h s.0 in
    (sym (length-map rows (entry_of l)) ∙ ap length s.1, (λ k h. (at k h).0), λ k h i. small_at (get_or rows k []) 0 i (omega arith) (row_small l law (get_or rows k []) (at k h).0 (at k h).1))

-- lines of rows are checked as those rows
checked_lines_lem : (l : Layout) (rows : List (List ℕ)) → Whole rows → OfBytes rows → checked_lines l (flat_map hex_line rows) ≡ in_names (checked l rows)
checked_lines_lem l rows w small =
    let back = hexadecimal.read_back rows w small in
    rw (form_kept (flat_map hex_line rows) back.0) (ap (λ rs. in_names (checked l rs)) back.1)

-- an input of at most 40 rows is judged by them
of_rows : (input : List ℕ) (l : Letter) (rows : List (List ℕ)) → length rows ≤ 40 → Whole rows → OfBytes rows → input ≡ headed l (flat_map hex_line rows) → verdict_on input ≡ in_names (checked (layout_of l) rows)
of_rows input l rows few w small is =
    let lines = length-lines hex_line 1501 rows (λ k h. hex_fills (get_or rows k []) (w k h)) in
    of_letter input l (flat_map hex_line rows) (omega (arith, ap length is, lines, mul-le (length rows) 1501 40 1501 few (omega arith))) is ∙ checked_lines_lem (layout_of l) rows w small

-- Every input is a letter, LF and lines of rows, or has a fault before any row is looked at
abbrev Rows : List ℕ → Type 0
Rows input = (l : Letter) × (rows : List (List ℕ)) × (length rows ≤ 40) × Whole rows × OfBytes rows × (input ≡ headed l (flat_map hex_line rows))

abbrev Fault : List ℕ → Type 0
Fault input = (n : Named) × (verdict_on input ≡ Err n) × FirstFault input n.number n.row n.position

by_form : (input : List ℕ) (l : Letter) (lines : List ℕ) → length input ≤ 60042 → input ≡ headed l lines → (o : Option Named) → form1 lines ≡ o → Found lines o → Rows input ⊎ Fault input
by_form input l lines few is None e formed =
    let rows = opened unhexed 1501 lines in
    let back = hexadecimal.written_back lines formed in
    let n = length-rows_of unhexed 1501 (length lines / 1501) lines in
    let count : length lines / 1501 ≤ 40 = omega (arith, ap length is, div-add-mod' (length lines) 1501) in
    inl (l, rows, omega arith, back.0, opened_small lines, is ∙ ap (headed l) (sym back.1))
by_form input l lines few is (Some n) e (at, same, bad) =
    inr (n, of_letter input l lines few is ∙ (rw e refl), rw same (bad_form l lines at few is bad))

by_letter : (input : List ℕ) → length input ≤ 60042 → (o : Option Letter) → letter_on input ≡ o → Rows input ⊎ Fault input
by_letter input few None e =
    let none = λ (l : Letter) (lines : List ℕ) (is : input ≡ headed l lines). (let no : ⊥ = cc (letter_is l lines, ap letter_on is) in no) in
    inr (named 32 0 0, of_none input few none, no_book few none)
by_letter input few (Some l) e =
    let is = is_headed input l e in
    by_form input l (drop 2 input) few is (form1 (drop 2 input)) refl (found (drop 2 input))

-- a line of digits tells its number
digits_tell : (w m n : ℕ) → m < 10 ^ w → n < 10 ^ w → printed w m ≡ printed w n → m ≡ n
digits_tell w m n a b e =
    let read = λ (k : ℕ) (h : k < 10 ^ w). (number_law (printed w k) k).1 (rw (length-printed w k, lt-ltb k (10 ^ w) h)) in
    let same : Ok m ≡ Ok n = sym (read m a) ∙ ap read_number e ∙ read n b in
    cc

-- an accepted file
of_file_lem : (input : List ℕ) (l : Letter) (rows : List (List ℕ)) → length rows ≤ 40 → Whole rows → input ≡ headed l (flat_map hex_line rows) → (a : Accepted) → checked (layout_of l) rows ≡ Ok a → (es : List Entry) × LegalInput input l es × (a ≡ accepted (layout_of l) es)
of_file_lem input l rows few w is a ok =
    let h = (file_law (layout_of l) (lawful l)).backed rows a (All-from_get_or (λ row. length row ≡ 750) rows [] w) ok in
    let es = h.0 in
    let n : length es ≤ 40 = omega (arith, (legal_rows (layout_of l) (lawful l) es h.1).0, ap length h.2) in
    (es, record { legal = h.1; few = n; written = is ∙ ap (λ rs. headed l (flat_map hex_line rs)) (sym h.2) }, h.3)

-- EVERY INPUT has a legal file, or a fault that its verdict names
abbrev File : List ℕ → Type 0
File input = (l : Letter) × (es : List Entry) × LegalInput input l es

by_check : (input : List ℕ) (r : Rows input) (c : Result Accepted Refusal) → checked (layout_of r.0) r.1 ≡ c → File input ⊎ Fault input
by_check input (l, rs, few, w, small, is) (Ok a) ok = let h = of_file_lem input l rs few w is a ok in inl (l, h.0, h.1)
by_check input (l, rs, few, w, small, is) (Err r) stop =
    inr (named r.number r.first r.second, of_rows input l rs few w small is ∙ ap in_names stop, bad_file l rs r few w small is stop)

decide : (input : List ℕ) → File input ⊎ Fault input
decide input =
    ⊎_elim
    (λ long. inr (named 33 0 0, of_long input long, too_long long))
    (λ few. ⊎_elim (λ r. by_check input r (checked (layout_of r.0) r.1) refl) (λ f. inr f) (by_letter input few (letter_on input) refl))
    (cases_lt 60042 (length input))

-- THE LAW
passing : (input : List ℕ) (l : Letter) (es : List Entry) → LegalInput input l es → line_of (verdict_on input) ≡ ok_line (length es) (sum_of (layout_of l) es)
passing input l es h =
    let rows = legal_rows (layout_of l) (lawful l) es h.legal in
    let few : length (rows_of (layout_of l) es) ≤ 40 = omega (arith, rows.0, h.few) in
    ap line_of (of_rows input l (rows_of (layout_of l) es) few rows.1 rows.2 h.written ∙ ap in_names ((file_law (layout_of l) (lawful l)).passes es h.legal).1)

abbrev Told : List ℕ → ℕ → ℕ → Type 0
Told input rows total = (l : Letter) × (es : List Entry) × LegalInput input l es × (rows < 10 ^ 5 → rows ≡ length es) × (total < 10 ^ 17 → total ≡ sum_of (layout_of l) es)

-- a NO line is no OK line
no_ok : {X : Type 0} (n : Named) (rows total : ℕ) → line_of (Err n) ≡ ok_line rows total → X
no_ok n rows total e = let z : ◌≡◌ {A = ℕ} 78 79 = ap (λ bs. get_or bs 0 0) e in absurd (omega arith)

telling : (input : List ℕ) (l : Letter) (es : List Entry) (rows total : ℕ) → LegalInput input l es → ok_line (length es) (sum_of (layout_of l) es) ≡ ok_line rows total → Told input rows total
telling input l es rows total h e =
    let few : length es < 10 ^ 5 = omega (arith, h.few) in
    let small : sum_of (layout_of l) es < 10 ^ 17 = legal_sum (layout_of l) (lawful l) es h.legal in
    (l, es, h, (λ b. digits_tell 5 rows (length es) b few (sym (ap (λ bs. take 5 (drop 8 bs)) e))), (λ b. digits_tell 17 total (sum_of (layout_of l) es) b small (sym (ap (λ bs. take 17 (drop 20 bs)) e))))

only_legal : (input : List ℕ) (rows total : ℕ) → line_of (verdict_on input) ≡ ok_line rows total → Told input rows total
only_legal input rows total e =
    ⊎_elim
    (λ p. telling input p.0 p.1 rows total p.2 (sym (passing input p.0 p.1 p.2) ∙ e))
    (λ f. no_ok f.0 rows total (ap line_of (sym f.1) ∙ e))
    (decide input)

naming : (input : List ℕ) (n row position : ℕ) → FirstFault input n row position → line_of (verdict_on input) ≡ no_line n row position
naming input n row position (too_long long) = ap line_of (of_long input long)
naming input n row position (no_book few none) = ap line_of (of_none input few none)
naming input n row position (bad_form l lines at few is bad) = rw (of_letter input l lines few is, form_broken lines at bad)
naming input n row position (bad_file l rows r few w small is stop) = ap line_of (of_rows input l rows few w small is ∙ ap in_names stop)

pub conferred : (input : List ℕ) → Conferred input (line_of (verdict_on input))
conferred input = record {
  passes = passing input;
  only = only_legal input;
  faulty = λ none. ⊎_elim (λ p. absurd (none p.0 p.1 p.2)) (λ f. (f.0.number, f.0.row, f.0.position, f.2)) (decide input);
  names = naming input;
}
