-- Digits read as n exactly when n fits them and is printed as them.
use Rattle.std.proofs.Common.{◌≡◌, ℕ, zero, suc, ◌+◌, ◌-◌, ◌*◌, ◌/◌, ◌%◌, ◌^◌, ◌<◌, ◌≤◌, false, ltb, List, [], ◌∷◌, length, Ok, sym, refl, ap, ◌∙◌, subst, add_assoc, mod-lt, mod-eq_of_lt, mul_assoc, add-mul, arith}
use native.Mathlib.Nat.{pow-succ'}
use lib.Arith.{digits_lt, digits_div, digits_mod, mod-mul}
use Rattle.std.specs.List.{AllByRecursion}
use Rattle.std.proofs.lemmas.Grind.{common_steps}
use Rattle.std.proofs.lemmas.Bool.{lt-ltb, ltb-true}
use Rattle.fields.specs.declared.flaws.Flaw.TheVariants.{Unfit}
use Rattle.fields.specs.Places.{first_bad}
use Rattle.fields.specs.Digits.{no_digit, read_number, write_number}
use Rattle.numbers.specs.Digits.{value, printed}
use Rattle.fields.proofs.Results.{Both, passed}
use Rattle.fields.proofs.Finding.{none_first, first_le_end}

ten : (k : ℕ) → zero < 10 ^ k
ten zero = omega arith
ten (suc k) = rw (pow-succ' 10 k) (let h = ten k in omega arith)

abbrev IsDigit : ℕ → Type 0
IsDigit b = (48 ≤ b) × (b ≤ 57)

abbrev IsDigits : List ℕ → Type 0
IsDigits = AllByRecursion IsDigit

pub is_digit : (k b : ℕ) → no_digit k b ≡ false → IsDigit b
is_digit k b e = (grind (arith, common_steps), grind (arith, common_steps))

clean : (bs : List ℕ) (k : ℕ) → first_bad no_digit k bs ≡ k + length bs → IsDigits bs
clean [] k e = tt
clean (b ∷ bs) k e = let p = none_first no_digit b bs k e in (is_digit k b p.0, clean bs (k + 1) p.1)

all_clean : (bs : List ℕ) (k : ℕ) → IsDigits bs → first_bad no_digit k bs ≡ k + length bs
all_clean [] k h = omega arith
all_clean (b ∷ bs) k h = grind (arith, common_steps, all_clean bs (k + 1) h.1)

pub length-printed : (w n : ℕ) → length (printed w n) ≡ w
length-printed zero n = refl
length-printed (suc w) n = ap suc (length-printed w n)

digits_printed : (w n : ℕ) → IsDigits (printed w n)
digits_printed zero n = tt
digits_printed (suc w) n = let l = mod-lt (n / 10 ^ w) {m = 10} (omega arith) in ((omega arith, omega (arith, l)), digits_printed w n)

value-printed : (w n : ℕ) → value (printed w n) ≡ n % 10 ^ w
value-printed zero n = omega arith
value-printed (suc w) n =
    let d = n / 10 ^ w % 10 in
    let drop48 : 48 + d - 48 ≡ d = omega arith in
    let m : n % (10 * 10 ^ w) ≡ d * 10 ^ w + n % 10 ^ w = mod-mul n (omega arith) (ten w) in
    rw (length-printed w n, value-printed w n, drop48, pow-succ' 10 w) (sym m)

value-lt : (bs : List ℕ) → IsDigits bs → value bs < 10 ^ length bs
value-lt [] h = omega arith
value-lt (b ∷ bs) h = rw (pow-succ' 10 (length bs)) (digits_lt (omega (arith, h.0.0, h.0.1)) (value-lt bs h.1))

-- whatever stands before, the lowest digits are those of the field
printed_after : (bs : List ℕ) (k : ℕ) → IsDigits bs → printed (length bs) (k * 10 ^ length bs + value bs) ≡ bs
printed_after [] k h = refl
printed_after (b ∷ bs) k h =
    let d = b - 48 in
    let n = length bs in
    let r = value bs in
    let small : d < 10 = omega (arith, h.0.0, h.0.1) in
    let e : k * 10 ^ suc n + (d * 10 ^ n + r) ≡ (k * 10 + d) * 10 ^ n + r =
    rw (pow-succ' 10 n, add-mul (k * 10) d (10 ^ n), mul_assoc k 10 (10 ^ n), add_assoc (k * (10 * 10 ^ n)) (d * 10 ^ n) r) in
    let q : ((k * 10 + d) * 10 ^ n + r) / 10 ^ n ≡ k * 10 + d = digits_div (k * 10 + d) (value-lt bs h.1) in
    let m : (k * 10 + d) % 10 ≡ d = digits_mod k small in
    let back : 48 + d ≡ b = omega (arith, h.0.0) in
    rw (e, q, m, back) (ap (λ l. b ∷ l) (printed_after bs (k * 10 + d) h.1))

read_ok : (bs : List ℕ) → IsDigits bs → read_number bs ≡ Ok (value bs)
read_ok bs h = let e = all_clean bs 0 h in grind (arith, common_steps)

ok_read : (bs : List ℕ) (n : ℕ) → read_number bs ≡ Ok n → IsDigits bs × (n ≡ value bs)
ok_read bs n ok =
    let none : first_bad no_digit 0 bs ≡ 0 + length bs = grind (arith, common_steps, first_le_end no_digit bs 0) in
    (clean bs 0 none, grind (arith, common_steps))

pub number_law : (bs : List ℕ) (n : ℕ) → Both (read_number bs ≡ Ok n) (write_number (length bs) n ≡ Ok bs)
number_law bs n = (
  (λ ok. let p = ok_read bs n ok in
      let z : n ≡ 0 * 10 ^ length bs + value bs = omega (arith, p.1) in
      let lt : n < 10 ^ length bs = rw p.1 (value-lt bs p.0) in
      rw (lt-ltb n (10 ^ length bs) lt) (ap Ok (ap (printed (length bs)) z ∙ printed_after bs 0 p.0))),
  (λ ok. let p = passed (ltb n (10 ^ length bs)) Unfit (Ok (printed (length bs) n)) bs ok in
      let is = p.1 in
      let same : printed (length bs) n ≡ bs = cc in
      let d : IsDigits bs = subst IsDigits same (digits_printed (length bs) n) in
      let e : value bs ≡ n = sym (ap value same) ∙ value-printed (length bs) n ∙ mod-eq_of_lt (ltb-true n (10 ^ length bs) p.0) in
      read_ok bs d ∙ ap Ok e),
)
