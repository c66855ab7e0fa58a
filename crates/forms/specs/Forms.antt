-- The three forms of a row: what its line holds, and which bytes may stand where.
use Rattle.std.specs.Prelude.{◌≡◌, ℕ, ◌+◌, ◌-◌, ◌*◌, ◌/◌, ◌%◌, Bool, true, cond, ◌&&◌, ◌||◌, List, [], ◌∷◌, ◌++◌, map, length, take, ◌==◌, nat_le, nat_lt, slice_index}
use Rattle.std.proofs.Common.{arith}
use Rattle.std.specs.List.{range_with_len}
use Rattle.std.proofs.lemmas.List.{length-take-le}
use Rattle.std.proofs.lemmas.List.FromFn.{length-map-range_with_len}

-- what bytes become that are written only if the length is right
abbrev pub Sized : Type 0 → List ℕ → List ℕ → List ℕ → Type 0
Sized right new before after = (right → after ≡ new) × ((right → ⊥) → after ≡ before)

-- flat: the row itself
abbrev pub flat : List ℕ → List ℕ
flat r = r

abbrev pub any_byte : ℕ → ℕ → Bool
any_byte place byte = true

pub flat_whole : (l : List ℕ) → length l ≡ 750 → length (flat l) ≡ 750
flat_whole l h = h

-- lined: the row, CR, LF
abbrev pub lined : List ℕ → List ℕ
lined r = r ++ (13 ∷ 10 ∷ [])

abbrev pub unlined : List ℕ → List ℕ
unlined l = take 750 l

abbrev pub lined_byte : ℕ → ℕ → Bool
lined_byte place byte = cond (nat_lt place 750) true (cond (place == 750) (byte == 13) (byte == 10))

pub lined_whole : (l : List ℕ) → length l ≡ 752 → length (unlined l) ≡ 750
lined_whole l h = length-take-le 750 l (omega arith)

-- hexadecimal: two digits for each byte, high first, then LF
abbrev pub digit : ℕ → ℕ
digit d = cond (nat_lt d 10) (48 + d) (55 + d)

-- of a byte that is no digit, some number below 16
abbrev pub digit_value : ℕ → ℕ
digit_value c = cond (nat_lt c 58) (c - 48) ((c - 55) % 16)

abbrev pub hex : List ℕ → List ℕ
hex [] = []
hex (b ∷ bs) = digit (b / 16) ∷ digit (b % 16) ∷ hex bs

abbrev pub hex_line : List ℕ → List ℕ
hex_line r = hex r ++ (10 ∷ [])

abbrev pub pair_at : List ℕ → ℕ → ℕ
pair_at l k = digit_value (slice_index l (2 * k)) * 16 + digit_value (slice_index l (2 * k + 1))

-- shut, since it would compute to 750 numbers
unfoldable pub unhexed : List ℕ → List ℕ
unhexed l = map (pair_at l) (range_with_len 0 750)

abbrev pub is_digit : ℕ → Bool
is_digit c = (nat_le 48 c && nat_lt c 58) || (nat_le 65 c && nat_lt c 71)

abbrev pub hex_byte : ℕ → ℕ → Bool
hex_byte place byte = cond (nat_lt place 1500) (is_digit byte) (byte == 10)

pub hex_whole : (l : List ℕ) → length l ≡ 1501 → length (unhexed l) ≡ 750
unfolding unhexed
hex_whole l h = length-map-range_with_len (pair_at l) 0 750
