-- What the book of recurring charges means.
use Rattle.std.specs.Prelude.{List, [], ◌∷◌, None, codes}
use Rattle.fields.specs.Field.{Field, constant, blank, text, word, number, code, date, amount, long, worked, number_of_row, total, count}
use Rattle.layouts.specs.Layout.{Layout}
use Rattle.layouts.specs.declared.conditions.Condition.{Condition}
use Rattle.layouts.specs.declared.conditions.Premise.TheVariants.{IfCode}
use Rattle.layouts.specs.declared.conditions.Claim.TheVariants.{IsFilled, NotFilled}
use Rattle.layouts.specs.Words.{req, opt, iff, kind}

abbrev pub fields_s0 : List Field
fields_s0 =
    req 1 1 (constant (codes "0")) ∷
    req 2 1 (constant (codes "1")) ∷
    req 3 7 (constant (codes "REMESSA")) ∷
    req 10 2 (constant (codes "02")) ∷
    req 12 15 (constant (codes "PIX")) ∷
    req 27 8 text ∷
    req 35 2 (code (2 ∷ [])) ∷
    req 37 14 number ∷
    opt 51 4 number ∷
    opt 55 20 long ∷
    opt 75 4 (word (codes "CACC" ∷ codes "SVGS" ∷ codes "TRAN" ∷ [])) ∷
    opt 79 77 text ∷
    req 156 8 date ∷
    req 164 30 text ∷
    opt 194 60 text ∷
    opt 254 100 text ∷
    opt 354 378 blank ∷
    req 732 10 number ∷
    req 742 3 (constant (codes "3CX")) ∷
    req 745 6 (worked number_of_row) ∷
    []

abbrev pub fields_sa : List Field
fields_sa =
    req 1 1 (constant (codes "A")) ∷
    req 2 2 (code (1 ∷ 2 ∷ 3 ∷ [])) ∷
    req 4 1 (code (1 ∷ 2 ∷ 3 ∷ 4 ∷ [])) ∷
    opt 5 2 (code (1 ∷ 2 ∷ [])) ∷
    opt 7 14 number ∷
    opt 21 140 text ∷
    opt 161 35 text ∷
    req 196 35 text ∷
    opt 231 35 text ∷
    req 266 1 (code (1 ∷ 2 ∷ 3 ∷ 4 ∷ 5 ∷ [])) ∷
    req 267 1 (code (1 ∷ 2 ∷ [])) ∷
    req 268 8 date ∷
    opt 276 8 date ∷
    req 284 1 (code (1 ∷ 2 ∷ [])) ∷
    opt 285 17 amount ∷
    req 302 1 (code (1 ∷ 2 ∷ [])) ∷
    opt 303 17 amount ∷
    req 320 1 (code (1 ∷ 2 ∷ [])) ∷
    opt 321 29 text ∷
    opt 350 77 text ∷
    opt 427 216 text ∷
    req 643 102 blank ∷
    req 745 6 (worked number_of_row) ∷
    []

abbrev pub conditions_sa : List Condition
conditions_sa =
    iff (IfCode 1 2) (IsFilled 18) ∷
    iff (IfCode 1 3) (IsFilled 18) ∷
    iff (IfCode 2 3) (IsFilled 6) ∷
    iff (IfCode 10 1) (IsFilled 12) ∷
    iff (IfCode 10 2) (NotFilled 12) ∷
    iff (IfCode 13 1) (IsFilled 14) ∷
    iff (IfCode 15 1) (IsFilled 16) ∷
    []

abbrev pub fields_s9 : List Field
fields_s9 =
    req 1 1 (constant (codes "9")) ∷
    opt 2 711 blank ∷
    req 713 17 (worked total) ∷
    req 730 15 (worked count) ∷
    req 745 6 (worked number_of_row) ∷
    []

abbrev pub layout_s : Layout
layout_s = record {
  kinds =
      kind 48 [] fields_s0 [] ∷
      kind 65 (codes "0A") fields_sa conditions_sa ∷
      kind 57 (codes "0A") fields_s9 [] ∷
      [];
  header = 48;
  trailer = 57;
  group = None;
  summed = None;
  counted = codes "0A9";
}
