-- What is printed of the cents beside the units.
use Rattle.std.proofs.Common.{◌≡◌, ℕ, ◌+◌, ◌-◌, ◌/◌, ◌%◌, ◌^◌, ◌<◌, false, [], ◌∷◌, ◌++◌, ⊎_elim, arith}
use Rattle.std.specs.Fmt.{decimal, padded_integral, format_spec, char_count}
use Rattle.std.proofs.lemmas.Fmt.{decimal_digit, decimal_step}
use Rattle.std.proofs.lemmas.Bool.{cases_lt}
use Rattle.numbers.specs.Digits.{printed}

-- two digits, the first perhaps a zero
pub two_digits : (n : ℕ) → n < 100 → padded_integral (format_spec 32 0 4 2 (2 ^ 64 - 1)) false [] (decimal n) ≡ printed 2 n
unfolding padded_integral char_count
two_digits n small =
    ⊎_elim
    (λ one. let high : n / 10 % 10 ≡ 0 = omega arith in let low : n / 1 % 10 ≡ n = omega arith in rw (decimal_digit n one, high, low))
    (λ two. let tens : decimal (n / 10) ≡ (48 + n / 10) ∷ [] = decimal_digit (n / 10) (omega arith) in
    let both : decimal n ≡ decimal (n / 10) ++ (48 + n % 10) ∷ [] = decimal_step n two (omega arith) in
    let high : n / 10 % 10 ≡ n / 10 = omega arith in
    let low : n / 1 % 10 ≡ n % 10 = omega arith in
    rw (both, tens, high, low))
    (cases_lt n 10)
