-- Dates as AAAAMMDD: a test on the number, and the calendar that it decides.
use Rattle.std.specs.Prelude.{◌≡◌, ℕ, ◌+◌, ◌*◌, ◌/◌, ◌%◌, ◌≤◌, Bool, cond, not, ◌&&◌, ◌||◌, ◌⊎◌, ◌==◌, nat_le}

abbrev pub leap : ℕ → Bool
leap y = y % 4 == 0 && (not (y % 100 == 0) || y % 400 == 0)

abbrev pub days_in : ℕ → ℕ → ℕ
days_in y m = cond (m == 2) (cond (leap y) 29 28) (cond (m == 4 || (m == 6 || (m == 9 || m == 11))) 30 31)

abbrev pub on_calendar : ℕ → ℕ → ℕ → Bool
on_calendar y m d = nat_le 1900 y && (nat_le y 2999 && (nat_le 1 m && (nat_le m 12 && (nat_le 1 d && nat_le d (days_in y m)))))

-- 0 is no date, and passes: whether the field is filled is asked elsewhere
abbrev pub is_date : ℕ → Bool
is_date n = n == 0 || on_calendar (n / 10000) (n / 100 % 100) (n % 100)

-- THE CALENDAR. A year of 366 days: every fourth, but of the hundredths only every fourth
abbrev pub Leap : ℕ → Type 0
Leap y = (y % 4 ≡ 0) × (y % 100 ≡ 0 → y % 400 ≡ 0)

-- months of 31 and of 30 days
abbrev pub LongMonth : ℕ → Type 0
LongMonth m = (m ≡ 1) ⊎ ((m ≡ 3) ⊎ ((m ≡ 5) ⊎ ((m ≡ 7) ⊎ ((m ≡ 8) ⊎ ((m ≡ 10) ⊎ (m ≡ 12))))))

abbrev pub ShortMonth : ℕ → Type 0
ShortMonth m = (m ≡ 4) ⊎ ((m ≡ 6) ⊎ ((m ≡ 9) ⊎ (m ≡ 11)))

-- month m of year y has a day d
abbrev pub HasDay : ℕ → ℕ → ℕ → Type 0
HasDay y m d = (1 ≤ d) × ((LongMonth m × (d ≤ 31)) ⊎ ((ShortMonth m × (d ≤ 30)) ⊎ ((m ≡ 2) × ((d ≤ 28) ⊎ ((d ≡ 29) × Leap y)))))

-- 0, or a year from 1900 to 2999, a month and a day of it, written one after the other
abbrev pub Date : ℕ → Type 0
Date n = (n ≡ 0) ⊎ ((y : ℕ) × (m : ℕ) × (d : ℕ) × (n ≡ y * 10000 + m * 100 + d) × (1900 ≤ y) × (y ≤ 2999) × HasDay y m d)
