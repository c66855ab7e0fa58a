-- A number: as many digits as the field is wide, zeros before it.
use Rattle.std.specs.Prelude.{ℕ, ◌^◌, Bool, cond, not, ◌&&◌, List, Ok, Err, Result, nat_le, nat_lt}
use Rattle.fields.specs.declared.flaws.Flaw.{Flaw}
use Rattle.fields.specs.declared.flaws.Flaw.TheVariants.{Byte, Unfit}
use Rattle.refusals.specs.Faults.{and_then}
use Rattle.numbers.specs.Digits.{value, printed}
use Rattle.fields.specs.Places.{checked}

abbrev pub digit : ℕ → Bool
digit b = nat_le 48 b && nat_le b 57

abbrev pub no_digit : ℕ → ℕ → Bool
no_digit k b = not (digit b)

abbrev pub check_digits : List ℕ → Result (List ℕ) Flaw
check_digits bs = checked Byte no_digit bs

abbrev pub read_number : List ℕ → Result ℕ Flaw
read_number bs = and_then (check_digits bs) (λ ds. Ok (value ds))

abbrev pub write_number : ℕ → ℕ → Result (List ℕ) Flaw
write_number w n = cond (nat_lt n (10 ^ w)) (Ok (printed w n)) (Err Unfit)
