-- The test on a number is the calendar's.
use Rattle.std.proofs.Common.{◌≡◌, ℕ, ◌+◌, ◌*◌, ◌/◌, ◌%◌, ◌≤◌, true, eqb, Decides, inl, inr, ⊎_elim, arith}
use Rattle.std.proofs.lemmas.Grind.{common_steps}
use Rattle.std.proofs.lemmas.Bool.{or_cases, or_left, or_right, eqb-true, eq-eqb}
use Rattle.std.proofs.lemmas.Bool.Decides.{nat_tests}
use Rattle.numbers.specs.Dates.{leap, days_in, on_calendar, is_date, Leap, HasDay, Date}

-- the test for leap years is the calendar's
is_leap_lem : (y : ℕ) → leap y ≡ true → Leap y
is_leap_lem y h = (grind (arith, nat_tests), λ e. grind (arith, nat_tests))

leap_is : (y : ℕ) → Leap y → leap y ≡ true
leap_is y h = grind (arith, nat_tests)

-- the days of a month, by the test and by the calendar
to_day : (y m d : ℕ) → 1 ≤ m → m ≤ 12 → 1 ≤ d → d ≤ days_in y m → HasDay y m d
to_day y m d a b one h = grind (arith, common_steps)

from_day : (y m d : ℕ) → HasDay y m d → (1 ≤ m) × (m ≤ 12) × (d ≤ 31) × (d ≤ days_in y m)
from_day y m d h = (grind (arith, common_steps), grind (arith, common_steps), grind (arith, common_steps), grind (arith, common_steps))

parts : (y m d : ℕ) → on_calendar y m d ≡ true → (1900 ≤ y) × (y ≤ 2999) × HasDay y m d
parts y m d t = (grind (arith, common_steps), grind (arith, common_steps), grind (arith, common_steps, to_day))

whole : (y m d : ℕ) → 1900 ≤ y → y ≤ 2999 → HasDay y m d → on_calendar y m d ≡ true
whole y m d a b h = let p = from_day y m d h in grind (arith, common_steps)

-- a year, a month and a day, written one after the other, come apart again
apart : (n y m d : ℕ) → n ≡ y * 10000 + m * 100 + d → m ≤ 12 → d ≤ 31 → (n / 10000 ≡ y) × (n / 100 % 100 ≡ m) × (n % 100 ≡ d)
apart n y m d e h k = (omega arith, omega arith, omega arith)

pub date_law : (n : ℕ) → Decides (is_date n) (Date n)
date_law n = (
  (λ t. ⊎_elim
      (λ z. inl (eqb-true n 0 z))
      (λ c. let p = parts (n / 10000) (n / 100 % 100) (n % 100) c in
      inr (n / 10000, n / 100 % 100, n % 100, omega arith, p.0, p.1, p.2))
      (or_cases (eqb n 0) (on_calendar (n / 10000) (n / 100 % 100) (n % 100)) t)),
  (λ w. ⊎_elim
      (λ z. or_left (eqb n 0) _ (eq-eqb n 0 z))
      (λ p. let b = from_day p.0 p.1 p.2 p.6 in
      let q = apart n p.0 p.1 p.2 p.3 b.1 b.2 in
      or_right (eqb n 0) _ (rw (q.0, q.1, q.2) (whole p.0 p.1 p.2 p.4 p.5 p.6)))
      w),
)
