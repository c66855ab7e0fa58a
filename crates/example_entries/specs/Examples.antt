-- What the examples mean: kinds and values.
use Rattle.std.specs.Prelude.{[], ◌∷◌, codes, replicate}
use Rattle.fields.specs.Field.{num, txt}
use Rattle.records.specs.Row.{Entry}

-- a header of a company, made on a leap day
abbrev pub header_entry : Entry
header_entry = record { mark = 48; values = txt (codes "12345678") ∷ (num 2 ∷ (num 12345678000195 ∷ (txt [] ∷ (txt [] ∷ (txt [] ∷ (txt [] ∷ (num 20240229 ∷ (txt [] ∷ (txt [] ∷ []))))))))) }

-- a charge of 1,250.00 under an identifier
abbrev pub charge_entry : Entry
charge_entry = record { mark = 49; values = num 2 ∷ (num 12345678000195 ∷ (num 0 ∷ (txt (replicate 20 48) ∷ (txt [] ∷ (txt (codes "key@bread") ∷ (num 2 ∷ (num 1 ∷ (txt (codes "BREAD-0001") ∷ (num 0 ∷ (num 20241231 ∷ (txt [] ∷ (num 125000 ∷ (num 0 ∷ (num 0 ∷ (num 0 ∷ (txt [] ∷ (num 0 ∷ (num 0 ∷ (txt [] ∷ (txt [] ∷ (txt [] ∷ (txt [] ∷ [])))))))))))))))))))))) }

-- a name and a value for it
abbrev pub follower_entry : Entry
follower_entry = record { mark = 50; values = txt (codes "BREAD-0001") ∷ (txt (codes "Filial") ∷ (txt (codes "Centro") ∷ (txt [] ∷ (txt [] ∷ (txt [] ∷ []))))) }

abbrev pub trailer_entry : Entry
trailer_entry = record { mark = 57; values = [] }
