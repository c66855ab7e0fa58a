-- The turns of the loop that writes digits, the lowest first.
use Rattle.std.proofs.Common.{◌≡◌, ℕ, suc, ◌+◌, ◌-◌, ◌/◌, ◌%◌, ◌^◌, ◌<◌, List, length, drop, set, sym, ap, ◌∙◌, pow-suc, arith, length-set}
use native.Mathlib.Nat.{div-div-eq-div-mul}
use Rattle.std.proofs.lemmas.List.{drop-set}
use Rattle.numbers.specs.Digits.{printed}

-- the places from i on hold the lowest digits of v, and rest is what is above them
pub record Wrote (bs : List ℕ) (i rest v : ℕ) : Type 0 where
  pub low : drop i bs ≡ printed (length bs - i) v
  pub high : rest ≡ v / 10 ^ (length bs - i)

pub more : (bs : List ℕ) (i j rest v : ℕ) → j < length bs → i ≡ j + 1 → Wrote bs i rest v → Wrote (set bs j (48 + rest % 10)) j (rest / 10) v
more bs i j rest v l e s =
    let n = length bs - i in
    let more : length bs - j ≡ suc n = omega arith in
    let on : drop (j + 1) bs ≡ printed n v = sym (ap (λ k. drop k bs) e) ∙ s.low in
    record {
      low = rw (length-set, more, drop-set bs j (48 + rest % 10) l, on, s.high);
      high = rw (length-set, more, pow-suc 10 n, s.high) (div-div-eq-div-mul v (10 ^ n) 10);
    }
