-- Memory that was made for just as many lines as there are rows.
use Rattle.std.proofs.Common.{◌≡◌, ℕ, ◌*◌, ◌/◌, ◌<◌, ap, ◌∙◌, mul-div_cancel, arith}

pub suffices : {X : Type 0} (size n len : ℕ) → 0 < size → len ≡ n * size → len / size < n → X
suffices size n len pos is less = absurd (omega (arith, ap (λ k. k / size) is ∙ mul-div_cancel n pos))
