-- A text: its bytes, then blanks.
use Rattle.std.specs.Prelude.{ℕ, ◌+◌, ◌-◌, Bool, cond, not, ◌&&◌, ◌||◌, List, [], ◌∷◌, ◌++◌, length, take, replicate, Ok, Err, Result, ◌==◌, nat_le, nat_lt}
use Rattle.fields.specs.declared.flaws.Flaw.{Flaw}
use Rattle.fields.specs.declared.flaws.Flaw.TheVariants.{Byte, Unfit}
use Rattle.refusals.specs.Faults.{and_then}
use Rattle.fields.specs.Places.{checked}

-- a byte that may not stand at place k of a text of n bytes: outside 32 to 126, or a blank at either end
abbrev pub bad_text : ℕ → ℕ → ℕ → Bool
bad_text n k b = not (nat_le 32 b && nat_le b 126) || (b == 32 && (k == 0 || k + 1 == n))

abbrev pub check_text : List ℕ → Result (List ℕ) Flaw
check_text t = checked Byte (bad_text (length t)) t

-- how much of a field is left without the blanks at its end
abbrev pub text_len : List ℕ → ℕ
text_len [] = 0
text_len (b ∷ bs) = cond (text_len bs == 0 && b == 32) 0 (1 + text_len bs)

abbrev pub trimmed : List ℕ → List ℕ
trimmed bs = take (text_len bs) bs

abbrev pub padded : ℕ → List ℕ → List ℕ
padded w t = t ++ replicate (w - length t) 32

abbrev pub read_text : List ℕ → Result (List ℕ) Flaw
read_text bs = check_text (trimmed bs)

-- what a field of w bytes takes: a text that is too long is refused as such, whatever its bytes
abbrev pub take_text : ℕ → List ℕ → Result (List ℕ) Flaw
take_text w t = cond (nat_lt w (length t)) (Err Unfit) (check_text t)

abbrev pub write_text : ℕ → List ℕ → Result (List ℕ) Flaw
write_text w t = and_then (take_text w t) (λ t. Ok (padded w t))
