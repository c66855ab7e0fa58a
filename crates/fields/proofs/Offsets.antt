-- A flaw lies in its field.
use Rattle.std.proofs.Common.{◌≡◌, ℕ, ◌≤◌, Bool, true, false, cond, List, length, Ok, Err, Result, arith}
use Rattle.std.proofs.lemmas.Grind.{common_steps}
use Rattle.std.proofs.lemmas.List.{length-take-le}
use Rattle.fields.specs.declared.flaws.Flaw.{Flaw}
use Rattle.fields.specs.declared.flaws.Flaw.TheVariants.{Unfit}
use Rattle.refusals.specs.Faults.{and_then}
use Rattle.fields.specs.Field.{Field, Family, fixed, digits, letters, long_digits, figured, Cell, family, fits, gate, raw_read, raw_write, read_field, write_field}
use Rattle.fields.specs.InRow.{offset}
use Rattle.fields.proofs.Trim.{text_len-le}

-- every refusal lies at most n from the start
abbrev Within : {A : Type 0} → ℕ → Result A Flaw → Type 0
Within n r = (e : Flaw) → r ≡ Err e → offset e ≤ n

-- every refusal of the bytes lies in them
raw_read_lem : (a : Family) (bs : List ℕ) → Within (length bs) (raw_read a bs)
raw_read_lem (fixed c) bs e h = grind (arith, common_steps)
raw_read_lem digits bs e h = grind (arith, common_steps)
raw_read_lem letters bs e h = grind (arith, common_steps, text_len-le, length-take-le)
raw_read_lem long_digits bs e h = grind (arith, common_steps)
raw_read_lem (figured k) bs e h = grind (arith, common_steps)

-- and every refusal of a content in its width
raw_write_lem : (a : Family) (w : ℕ) (v : Cell) → Within w (raw_write a w v)
raw_write_lem (fixed c) w v e h = grind (arith, common_steps)
raw_write_lem digits w v e h = grind (arith, common_steps)
raw_write_lem letters w v e h = grind (arith, common_steps)
raw_write_lem long_digits w v e h = grind (arith, common_steps)
raw_write_lem (figured k) w v e h = grind (arith, common_steps)

pub read_within : (f : Field) (bs : List ℕ) → Within (length bs) (read_field f bs)
read_within f bs e h = step (fits f) (raw_read (family f.sort) bs) (raw_read_lem (family f.sort) bs e) h
  where
    step : (fit : Bool) (r : Result Cell Flaw) → (r ≡ Err e → offset e ≤ length bs) → cond fit (and_then r (gate f.sort f.required)) (Err Unfit) ≡ Err e → offset e ≤ length bs
    step true (Ok v) raw h = grind (arith, common_steps)
    step true (Err d) raw h = raw h
    step false r raw h = grind (arith, common_steps)

pub write_within : (f : Field) (v : Cell) → Within f.width (write_field f v)
write_within f v e h = step (fits f) (raw_write (family f.sort) f.width v) (raw_write_lem (family f.sort) f.width v e) h
  where
    step : (fit : Bool) (r : Result (List ℕ) Flaw) → (r ≡ Err e → offset e ≤ f.width) → cond fit (and_then r (λ bs. and_then (gate f.sort f.required v) (λ _. Ok bs))) (Err Unfit) ≡ Err e → offset e ≤ f.width
    step true (Ok bs) raw h = grind (arith, common_steps)
    step true (Err d) raw h = raw h
    step false r raw h = grind (arith, common_steps)
