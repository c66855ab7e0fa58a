-- The turns of the loop that reads a number.
use Rattle.std.proofs.Common.{◌≡◌, ℕ, suc, ◌+◌, ◌-◌, ◌*◌, ◌^◌, ◌<◌, ◌≤◌, List, ◌∷◌, length, get_or, drop, Ok, sym, mul_assoc, add-mul, add-one, arith}
use native.Mathlib.Nat.{pow-le-pow_right, pow-succ'}
use Rattle.std.proofs.lemmas.List.{drop_more}
use Rattle.fields.specs.declared.flaws.Flaw.TheVariants.{Byte}
use Rattle.fields.specs.Digits.{no_digit, check_digits}
use Rattle.numbers.specs.Digits.{value}
use Rattle.fields.proofs.Finding.{none_in, ok_checked}
use Rattle.fields.proofs.NumberLaw.{is_digit}

-- the first i bytes write sum
pub record Sofar (bs : List ℕ) (i sum : ℕ) : Type 0 where
  pub total : sum * 10 ^ length (drop i bs) + value (drop i bs) ≡ value bs
  pub small : sum < 10 ^ i

pub digit_at : (bs : List ℕ) → check_digits bs ≡ Ok bs → (i : ℕ) → i < length bs → (48 ≤ get_or bs i 0) × (get_or bs i 0 ≤ 57)
digit_at bs ok i l = is_digit i (get_or bs i 0) (none_in no_digit bs (ok_checked no_digit Byte bs bs ok).0 i l)

pub more : (bs : List ℕ) (i sum : ℕ) → check_digits bs ≡ Ok bs → i < length bs → Sofar bs i sum → Sofar bs (i + 1) (sum * 10 + (get_or bs i 0 - 48))
more bs i sum ok l s =
    let d = get_or bs i 0 in
    let is = digit_at bs ok i l in
    let rest = drop (i + 1) bs in
    let p = 10 ^ length rest in
    let cut : drop i bs ≡ d ∷ rest = drop_more bs i 0 l in
    let t : sum * 10 ^ suc (length rest) + ((d - 48) * p + value rest) ≡ value bs = rw cut at s.total in
    let e : sum * 10 ^ suc (length rest) ≡ sum * 10 * p = rw pow-succ' (sym (mul_assoc sum 10 p)) in
    let f = add-mul (sum * 10) (d - 48) p in
    let g : 10 ^ (i + 1) ≡ 10 * 10 ^ i = rw (add-one, pow-succ') in
    record { total = omega (arith, t, e, f); small = omega (arith, g, s.small, is.0, is.1) }

-- one digit more fits 64 bits
pub room : (i sum d : ℕ) → i < 18 → sum < 10 ^ i → d < 10 → sum * 10 + d < 2 ^ 64
room i sum d h s k = let le : i ≤ 17 = omega arith in let p : 10 ^ i ≤ 10 ^ 17 = pow-le-pow_right (omega arith) le in omega (arith, p)
