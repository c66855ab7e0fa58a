-- What the book of outgoing receipts means.
use Rattle.std.specs.Prelude.{List, [], ◌∷◌, Some, codes}
use Rattle.fields.specs.Field.{Field, constant, blank, text, word, number, code, date, amount, long, worked, number_of_row, number_of_owner, total, count}
use Rattle.layouts.specs.Layout.{Layout}
use Rattle.layouts.specs.declared.conditions.Condition.{Condition}
use Rattle.layouts.specs.declared.conditions.Premise.TheVariants.{Always, IfCode, IfFilled}
use Rattle.layouts.specs.declared.conditions.Claim.TheVariants.{IsFilled, IsCode, AtMost, Short, ShortBoth}
use Rattle.layouts.specs.Words.{req, opt, iff, kind}

abbrev pub fields_p0 : List Field
fields_p0 =
    req 1 1 (constant (codes "0")) ∷
    req 2 1 (constant (codes "1")) ∷
    req 3 7 (constant (codes "REMESSA")) ∷
    req 10 2 (constant (codes "02")) ∷
    req 12 15 (constant (codes "PIX")) ∷
    req 27 8 text ∷
    req 35 2 (code (1 ∷ 2 ∷ [])) ∷
    req 37 14 number ∷
    opt 51 4 text ∷
    opt 55 20 text ∷
    opt 75 4 (word (codes "CACC" ∷ codes "SVGS" ∷ [])) ∷
    opt 79 77 text ∷
    req 156 8 date ∷
    opt 164 30 text ∷
    opt 194 60 text ∷
    opt 254 488 blank ∷
    req 742 3 (constant (codes "001")) ∷
    req 745 6 (worked number_of_row) ∷
    []

abbrev pub fields_p1 : List Field
fields_p1 =
    req 1 1 (constant (codes "1")) ∷
    req 2 2 (code (1 ∷ 2 ∷ [])) ∷
    req 4 14 number ∷
    opt 18 4 number ∷
    opt 22 20 long ∷
    opt 42 4 (word (codes "CACC" ∷ codes "SVGS" ∷ [])) ∷
    req 46 77 text ∷
    req 123 1 (code (1 ∷ 2 ∷ [])) ∷
    req 124 2 (code (1 ∷ 2 ∷ 4 ∷ [])) ∷
    opt 126 35 text ∷
    opt 161 15 number ∷
    opt 176 8 date ∷
    opt 184 1 (word (codes "S" ∷ codes "N" ∷ [])) ∷
    opt 185 17 amount ∷
    opt 202 17 amount ∷
    opt 219 17 amount ∷
    opt 236 17 amount ∷
    opt 253 1 (word (codes "S" ∷ codes "N" ∷ [])) ∷
    opt 254 2 (code (1 ∷ 2 ∷ [])) ∷
    opt 256 14 number ∷
    opt 270 140 text ∷
    opt 410 140 text ∷
    opt 550 1 (word (codes "S" ∷ codes "N" ∷ [])) ∷
    opt 551 60 text ∷
    opt 611 134 blank ∷
    req 745 6 (worked number_of_row) ∷
    []

abbrev pub conditions_p1 : List Condition
conditions_p1 =
    iff (IfCode 7 2) (IsFilled 9) ∷
    iff (IfCode 7 2) (IsFilled 13) ∷
    iff (IfCode 8 2) (IsCode 7 2) ∷
    iff (IfCode 8 4) (IsCode 7 2) ∷
    iff Always (AtMost 14 13) ∷
    iff Always (AtMost 15 13) ∷
    iff Always (AtMost 16 13) ∷
    iff (IfFilled 19) (IsFilled 20) ∷
    iff (IfCode 7 1) (Short 9 25) ∷
    iff (IfCode 7 1) (ShortBoth 6 21 77) ∷
    []

abbrev pub fields_p2 : List Field
fields_p2 =
    req 1 1 (constant (codes "2")) ∷
    opt 2 35 text ∷
    req 37 50 text ∷
    req 87 200 text ∷
    opt 287 50 text ∷
    opt 337 200 text ∷
    opt 537 30 text ∷
    opt 567 172 blank ∷
    req 739 6 (worked number_of_owner) ∷
    req 745 6 (worked number_of_row) ∷
    []

abbrev pub fields_p9 : List Field
fields_p9 =
    req 1 1 (constant (codes "9")) ∷
    opt 2 711 blank ∷
    req 713 17 (worked total) ∷
    req 730 15 (worked count) ∷
    req 745 6 (worked number_of_row) ∷
    []

abbrev pub layout_p : Layout
layout_p = record {
  kinds =
      kind 48 [] fields_p0 [] ∷
      kind 49 (codes "012") fields_p1 conditions_p1 ∷
      kind 50 (codes "12") fields_p2 [] ∷
      kind 57 (codes "012") fields_p9 [] ∷
      [];
  header = 48;
  trailer = 57;
  group = Some (record { owner = 49; follower = 50; owner_type = 7; owner_identifier = 9; follower_identifier = 1; largest = 50 });
  summed = Some (record { kind = 49; field = 13 });
  counted = codes "0129";
}
