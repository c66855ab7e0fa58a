-- The laws of the lined and the hexadecimal form.
use Rattle.std.specs.Prelude.{◌≡◌, ℕ, zero, suc, ◌+◌, ◌-◌, ◌*◌, ◌/◌, ◌%◌, ◌<◌, ◌≤◌, true, ◌⊎◌, List, [], ◌∷◌, ◌++◌, length, get_or, take, drop, set, ◌==◌, nat_lt, slice_index, slice_index_or, slice_set, refl}
use Rattle.std.proofs.Common.{sym, ap, ◌∙◌, inl, inr, ⊎_elim, arith, below_more}
use Rattle.std.proofs.lemmas.List.{length-append, take_at, take-append-drop, drop_more, drop_all, set-append_right, get_or_default, get_or-set_same, get_or-set_other, length-set, get_or_at, get_or_append_left, get_or-append_right, same_lists}
use Rattle.std.proofs.lemmas.List.FromFn.{length-map-range_with_len, get_or-map-range_with_len}
use Rattle.std.proofs.lemmas.Bool.{cases_lt, eqb-true, cond-true, lt-ltb}
use Rattle.std.proofs.lemmas.Bool.Decides.{nat_tests}
use Rattle.forms.specs.Forms.{lined, unlined, lined_byte, digit, digit_value, hex, hex_line, pair_at, unhexed, is_digit, hex_byte}

pub lined_fills : (r : List ℕ) → length r ≡ 750 → length (lined r) ≡ 752
lined_fills r h = omega (arith, length-append r (13 ∷ 10 ∷ []))

pub lined_back : (r : List ℕ) → length r ≡ 750 → unlined (lined r) ≡ r
lined_back r h = take_at r (13 ∷ 10 ∷ []) 750 h

lined_byte_lem : (p b : ℕ) → p < 752 → (p ≡ 750 → b ≡ 13) → (p ≡ 751 → b ≡ 10) → lined_byte p b ≡ true
lined_byte_lem p b h cr lf = grind (arith, nat_tests)

pub lined_sound : (r : List ℕ) → length r ≡ 750 → (p : ℕ) → p < 752 → lined_byte p (slice_index (lined r) p) ≡ true
lined_sound r h p lt =
    let end = λ (le : 750 ≤ p). get_or-append_right r (13 ∷ 10 ∷ []) 750 p 0 h le in
    lined_byte_lem p (slice_index (lined r) p) lt
    (λ e. let z : p - 750 ≡ 0 = omega arith in end (omega arith) ∙ ap (λ k. slice_index (13 ∷ 10 ∷ []) k) z)
    (λ e. let z : p - 750 ≡ 1 = omega arith in end (omega arith) ∙ ap (λ k. slice_index (13 ∷ 10 ∷ []) k) z)

pub lined_forth : (l : List ℕ) → length l ≡ 752 → ((p : ℕ) → p < 752 → lined_byte p (slice_index l p) ≡ true) → lined (unlined l) ≡ l
lined_forth l h good =
    let cr : get_or l 750 0 ≡ 13 = eqb-true (slice_index l 750) 13 (good 750 (omega arith)) in
    let lf : get_or l 751 0 ≡ 10 = eqb-true (slice_index l 751) 10 (good 751 (omega arith)) in
    let a = drop_more l 750 0 (omega arith) in
    let b = drop_more l 751 0 (omega arith) in
    let e : drop 752 l ≡ [] = drop_all 752 l (omega arith) in
    let rest : drop 750 l ≡ (13 ∷ 10 ∷ []) = cc in
    ap (λ t. take 750 l ++ t) (sym rest) ∙ take-append-drop 750 l

-- a row with CR and LF set behind it
pub lined_written : (r o : List ℕ) → length r ≡ 750 → length o ≡ 752 → slice_set (slice_set (r ++ drop 750 o) 750 13) 751 10 ≡ lined r
lined_written r o h n =
    let a = drop_more o 750 0 (omega arith) in
    let b = drop_more o 751 0 (omega arith) in
    let e : drop 752 o ≡ [] = drop_all 752 o (omega arith) in
    let rest : drop 750 o ≡ (slice_index o 750 ∷ slice_index o 751 ∷ []) = cc in
    ap (λ t. set (slice_set (r ++ t) 750 13) 751 10) rest
    ∙ ap (λ t. set t 751 10) (set-append_right r (slice_index o 750 ∷ slice_index o 751 ∷ []) 750 750 13 h (omega arith))
    ∙ set-append_right r (13 ∷ slice_index o 751 ∷ []) 750 751 10 h (omega arith)

-- hexadecimal
pub length-hex : (r : List ℕ) → length (hex r) ≡ 2 * length r
length-hex [] = refl
length-hex (b ∷ bs) = omega (arith, length-hex bs)

twice : (k : ℕ) → 2 * suc k ≡ suc (suc (2 * k))
twice k = omega arith

get_or-high : (r : List ℕ) (k : ℕ) → k < length r → slice_index (hex r) (2 * k) ≡ digit (slice_index r k / 16)
get_or-high [] k h = absurd (omega arith)
get_or-high (b ∷ bs) zero h = refl
get_or-high (b ∷ bs) (suc k) h = ap (λ i. slice_index (hex (b ∷ bs)) i) (twice k) ∙ get_or-high bs k (omega arith)

get_or-low : (r : List ℕ) (k : ℕ) → k < length r → slice_index (hex r) (2 * k + 1) ≡ digit (slice_index r k % 16)
get_or-low [] k h = absurd (omega arith)
get_or-low (b ∷ bs) zero h = refl
get_or-low (b ∷ bs) (suc k) h =
    let z : 2 * suc k + 1 ≡ suc (suc (2 * k + 1)) = omega arith in
    ap (λ i. slice_index (hex (b ∷ bs)) i) z ∙ get_or-low bs k (omega arith)

pub hex_fills : (r : List ℕ) → length r ≡ 750 → length (hex_line r) ≡ 1501
hex_fills r h = omega (arith, length-hex r, length-append (hex r) (10 ∷ []))

high_at : (r : List ℕ) → length r ≡ 750 → (k : ℕ) → k < 750 → slice_index (hex_line r) (2 * k) ≡ digit (slice_index r k / 16)
high_at r h k lt = get_or_append_left (hex r) (10 ∷ []) 0 (2 * k) (omega (arith, length-hex r)) ∙ get_or-high r k (omega arith)

low_at : (r : List ℕ) → length r ≡ 750 → (k : ℕ) → k < 750 → slice_index (hex_line r) (2 * k + 1) ≡ digit (slice_index r k % 16)
low_at r h k lt = get_or_append_left (hex r) (10 ∷ []) 0 (2 * k + 1) (omega (arith, length-hex r)) ∙ get_or-low r k (omega arith)

end_at : (r : List ℕ) → length r ≡ 750 → slice_index (hex_line r) 1500 ≡ 10
end_at r h = get_or_at (hex r) 10 [] 0 1500 (omega (arith, length-hex r))

pub get_or-unhexed : (l : List ℕ) (k d : ℕ) → k < 750 → slice_index_or (unhexed l) k d ≡ pair_at l k
unfolding unhexed
get_or-unhexed l k d h = get_or-map-range_with_len (pair_at l) 0 750 k k d h (omega arith)

pub length-unhexed : (l : List ℕ) → length (unhexed l) ≡ 750
unfolding unhexed
length-unhexed l = length-map-range_with_len (pair_at l) 0 750

value_of_digit : (d : ℕ) → d < 16 → digit_value (digit d) ≡ d
value_of_digit d h = grind (arith, nat_tests)

digit_of_value : (c : ℕ) → is_digit c ≡ true → (digit (digit_value c) ≡ c) × (digit_value c < 16)
digit_of_value c h = (grind (arith, nat_tests), grind (arith, nat_tests))

digit_is : (d : ℕ) → d < 16 → is_digit (digit d) ≡ true
digit_is d h = grind (arith, nat_tests)

pub hex_back : (r : List ℕ) → length r ≡ 750 → ((k : ℕ) → slice_index r k < 256) → unhexed (hex_line r) ≡ r
hex_back r h small =
    same_lists (unhexed (hex_line r)) r (length-unhexed (hex_line r) ∙ sym h)
    (λ k d lt.
    let in' : k < 750 = omega (arith, length-unhexed (hex_line r)) in
    let b = get_or r k 0 in
    let s : b < 256 = small k in
    let hi : digit_value (slice_index (hex_line r) (2 * k)) ≡ b / 16 = ap digit_value (high_at r h k in') ∙ value_of_digit (b / 16) (omega arith) in
    let lo : digit_value (slice_index (hex_line r) (2 * k + 1)) ≡ b % 16 = ap digit_value (low_at r h k in') ∙ value_of_digit (b % 16) (omega arith) in
    let sum : pair_at (hex_line r) k ≡ b = omega (arith, hi, lo) in
    get_or-unhexed (hex_line r) k d in' ∙ sum ∙ get_or_default r k 0 d (omega arith))

-- a place is a high digit's or a low digit's
halves : (p : ℕ) → (p ≡ 2 * (p / 2)) ⊎ (p ≡ 2 * (p / 2) + 1)
halves p = ⊎_elim (λ e. inl (omega arith)) (λ e. inr (omega arith)) (cases_lt (p % 2) 1)

hex_byte_lem : (p b : ℕ) → p < 1501 → (p < 1500 → is_digit b ≡ true) → (p ≡ 1500 → b ≡ 10) → hex_byte p b ≡ true
hex_byte_lem p b h dig lf = ⊎_elim (λ lt. let d = dig lt in grind (arith, nat_tests)) (λ le. let e : b ≡ 10 = lf (omega arith) in grind (arith, nat_tests)) (cases_lt p 1500)

pub hex_sound : (r : List ℕ) → length r ≡ 750 → ((k : ℕ) → slice_index r k < 256) → (p : ℕ) → p < 1501 → hex_byte p (slice_index (hex_line r) p) ≡ true
hex_sound r h small p lt =
    let k = p / 2 in
    let s : get_or r (p / 2) 0 < 256 = small (p / 2) in
    hex_byte_lem p (slice_index (hex_line r) p) lt
    (λ below. ⊎_elim
    (λ e. ap (λ q. is_digit (slice_index (hex_line r) q)) e ∙ ap is_digit (high_at r h k (omega arith)) ∙ digit_is (slice_index r k / 16) (omega arith))
    (λ e. ap (λ q. is_digit (slice_index (hex_line r) q)) e ∙ ap is_digit (low_at r h k (omega arith)) ∙ digit_is (slice_index r k % 16) (omega arith))
    (halves p))
    (λ e. ap (λ q. slice_index (hex_line r) q) e ∙ end_at r h)

-- a list that has a row's digits, and LF, is its line
pub hex_same : (r l : List ℕ) → length r ≡ 750 → length l ≡ 1501 → ((k : ℕ) → k < 750 → (slice_index l (2 * k) ≡ digit (slice_index r k / 16)) × (slice_index l (2 * k + 1) ≡ digit (slice_index r k % 16))) → slice_index l 1500 ≡ 10 → l ≡ hex_line r
hex_same r l h n digits lf =
    same_lists l (hex_line r) (n ∙ sym (hex_fills r h))
    (λ p d lt.
    let k = p / 2 in
    let m = hex_fills r h in
    let at0 : get_or l p 0 ≡ get_or (hex_line r) p 0 =
    ⊎_elim
    (λ below. ⊎_elim
    (λ e. ap (λ q. slice_index l q) e ∙ (digits k (omega arith)).0 ∙ sym (high_at r h k (omega arith)) ∙ ap (λ q. slice_index (hex_line r) q) (sym e))
    (λ e. ap (λ q. slice_index l q) e ∙ (digits k (omega arith)).1 ∙ sym (low_at r h k (omega arith)) ∙ ap (λ q. slice_index (hex_line r) q) (sym e))
    (halves p))
    (λ above. let e : p ≡ 1500 = omega arith in ap (λ q. slice_index l q) e ∙ lf ∙ sym (end_at r h) ∙ ap (λ q. slice_index (hex_line r) q) (sym e))
    (cases_lt p 1500) in
    get_or_default l p d 0 lt ∙ at0 ∙ get_or_default (hex_line r) p 0 d (omega arith))

pub hex_forth : (l : List ℕ) → length l ≡ 1501 → ((p : ℕ) → p < 1501 → hex_byte p (slice_index l p) ≡ true) → hex_line (unhexed l) ≡ l
hex_forth l n good =
    sym (hex_same (unhexed l) l (length-unhexed l) n
    (λ k lt.
    let hi = digit_of_value (slice_index l (2 * k)) (digit_here (2 * k) (omega arith)) in
    let lo = digit_of_value (slice_index l (2 * k + 1)) (digit_here (2 * k + 1) (omega arith)) in
    let u = get_or-unhexed l k 0 lt in
    let q : get_or (unhexed l) k 0 / 16 ≡ digit_value (slice_index l (2 * k)) = omega arith in
    let m : get_or (unhexed l) k 0 % 16 ≡ digit_value (slice_index l (2 * k + 1)) = omega arith in
    (sym (ap digit q ∙ hi.0), sym (ap digit m ∙ lo.0)))
    (eqb-true (slice_index l 1500) 10 (good 1500 (omega arith))))
  where
    digit_here : (p : ℕ) → p < 1500 → is_digit (slice_index l p) ≡ true
    digit_here p lt = sym (cond-true (nat_lt p 1500) (is_digit (slice_index l p)) (slice_index l p == 10) (lt-ltb p 1500 lt)) ∙ good p (omega arith)

-- one turn of `write`
pub digits_more : (r out : List ℕ) (i a b : ℕ) → length out ≡ 1501 → i < 750 → a ≡ digit (slice_index r i / 16) → b ≡ digit (slice_index r i % 16) → ((k : ℕ) → k < i → (slice_index out (2 * k) ≡ digit (slice_index r k / 16)) × (slice_index out (2 * k + 1) ≡ digit (slice_index r k % 16))) → (k : ℕ) → k < i + 1 → (slice_index (slice_set (slice_set out (2 * i) a) (2 * i + 1) b) (2 * k) ≡ digit (slice_index r k / 16)) × (slice_index (slice_set (slice_set out (2 * i) a) (2 * i + 1) b) (2 * k + 1) ≡ digit (slice_index r k % 16))
digits_more r out i a b n lt ea eb below =
    below_more (λ k. (slice_index (slice_set (slice_set out (2 * i) a) (2 * i + 1) b) (2 * k) ≡ digit (slice_index r k / 16)) × (slice_index (slice_set (slice_set out (2 * i) a) (2 * i + 1) b) (2 * k + 1) ≡ digit (slice_index r k % 16))) i
    (λ k h. (
      get_or-set_other one (2 * i + 1) (2 * k) b 0 (omega arith) ∙ get_or-set_other out (2 * i) (2 * k) a 0 (omega arith) ∙ (below k h).0,
      get_or-set_other one (2 * i + 1) (2 * k + 1) b 0 (omega arith) ∙ get_or-set_other out (2 * i) (2 * k + 1) a 0 (omega arith) ∙ (below k h).1,
    )) (
      get_or-set_other one (2 * i + 1) (2 * i) b 0 (omega arith) ∙ get_or-set_same out (2 * i) a 0 (omega arith) ∙ ea,
      get_or-set_same one (2 * i + 1) b 0 (omega (arith, length-set out (2 * i) a)) ∙ eb,
    )
  where
    one : List ℕ
    one = slice_set out (2 * i) a
