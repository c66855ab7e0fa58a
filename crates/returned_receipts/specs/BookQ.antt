-- What the book of returned receipts means.
use Rattle.std.specs.Prelude.{List, [], ◌∷◌, Some, codes}
use Rattle.fields.specs.Field.{Field, constant, blank, text, word, number, code, date, amount, long, worked, number_of_row, number_of_owner, count}
use Rattle.layouts.specs.Layout.{Layout}
use Rattle.layouts.specs.Words.{req, opt, kind}

abbrev pub fields_q0 : List Field
fields_q0 =
    req 1 1 (constant (codes "0")) ∷
    req 2 1 (constant (codes "2")) ∷
    req 3 7 (constant (codes "RETORNO")) ∷
    req 10 2 (constant (codes "02")) ∷
    req 12 15 (constant (codes "PIX")) ∷
    req 27 8 text ∷
    req 35 2 (code (1 ∷ 2 ∷ [])) ∷
    req 37 14 number ∷
    opt 51 4 number ∷
    opt 55 20 long ∷
    opt 75 4 (word (codes "CACC" ∷ codes "SVGS" ∷ [])) ∷
    opt 79 77 text ∷
    req 156 8 date ∷
    opt 164 30 text ∷
    opt 194 60 text ∷
    opt 254 30 text ∷
    opt 284 458 blank ∷
    req 742 3 (constant (codes "001")) ∷
    req 745 6 (worked number_of_row) ∷
    []

abbrev pub fields_q1 : List Field
fields_q1 =
    req 1 1 (constant (codes "1")) ∷
    req 2 8 text ∷
    req 10 2 (code (1 ∷ 2 ∷ [])) ∷
    req 12 14 number ∷
    req 26 4 text ∷
    req 30 20 text ∷
    req 50 4 (word (codes "CACC" ∷ codes "SVGS" ∷ [])) ∷
    req 54 77 text ∷
    req 131 1 (code (1 ∷ 2 ∷ 3 ∷ [])) ∷
    req 132 2 (code (2 ∷ 3 ∷ 4 ∷ 5 ∷ 6 ∷ 7 ∷ 8 ∷ 9 ∷ [])) ∷
    req 134 8 date ∷
    req 142 35 text ∷
    opt 177 15 number ∷
    opt 192 8 date ∷
    opt 200 17 amount ∷
    opt 217 17 amount ∷
    opt 234 17 amount ∷
    opt 251 17 amount ∷
    opt 268 17 amount ∷
    opt 285 17 amount ∷
    opt 302 17 amount ∷
    opt 319 2 (code (1 ∷ 2 ∷ [])) ∷
    opt 321 14 number ∷
    opt 335 140 text ∷
    opt 475 2 (code (1 ∷ 2 ∷ [])) ∷
    opt 477 14 number ∷
    opt 491 140 text ∷
    opt 631 2 (word (codes "01" ∷ codes "02" ∷ codes "03" ∷ codes "04" ∷ codes "05" ∷ [])) ∷
    opt 633 35 text ∷
    opt 668 30 text ∷
    opt 698 47 blank ∷
    req 745 6 (worked number_of_row) ∷
    []

abbrev pub fields_q2 : List Field
fields_q2 =
    req 1 1 (constant (codes "2")) ∷
    req 2 35 text ∷
    req 37 50 text ∷
    req 87 200 text ∷
    opt 287 50 text ∷
    opt 337 200 text ∷
    opt 537 202 blank ∷
    req 739 6 (worked number_of_owner) ∷
    req 745 6 (worked number_of_row) ∷
    []

abbrev pub fields_q3 : List Field
fields_q3 =
    req 1 1 (constant (codes "3")) ∷
    req 2 77 text ∷
    req 79 2 (code (2 ∷ 3 ∷ 4 ∷ 5 ∷ 6 ∷ 7 ∷ 8 ∷ 9 ∷ [])) ∷
    req 81 8 date ∷
    req 89 35 text ∷
    req 124 500 text ∷
    opt 624 77 text ∷
    opt 701 44 blank ∷
    req 745 6 (worked number_of_row) ∷
    []

abbrev pub fields_q4 : List Field
fields_q4 =
    req 1 1 (constant (codes "4")) ∷
    req 2 77 text ∷
    req 79 2 (code (2 ∷ 3 ∷ 4 ∷ 5 ∷ 6 ∷ 7 ∷ 8 ∷ 9 ∷ [])) ∷
    req 81 8 date ∷
    req 89 35 text ∷
    req 124 500 text ∷
    opt 624 77 text ∷
    opt 701 44 blank ∷
    req 745 6 (worked number_of_row) ∷
    []

abbrev pub fields_q9 : List Field
fields_q9 =
    req 1 1 (constant (codes "9")) ∷
    req 2 1 (constant (codes "2")) ∷
    req 3 2 (constant (codes "02")) ∷
    req 5 8 text ∷
    opt 13 30 text ∷
    opt 43 687 blank ∷
    req 730 15 (worked count) ∷
    req 745 6 (worked number_of_row) ∷
    []

abbrev pub layout_q : Layout
layout_q = record {
  kinds =
      kind 48 [] fields_q0 [] ∷
      kind 49 (codes "01234") fields_q1 [] ∷
      kind 50 (codes "12") fields_q2 [] ∷
      kind 51 (codes "01234") fields_q3 [] ∷
      kind 52 (codes "01234") fields_q4 [] ∷
      kind 57 (codes "01234") fields_q9 [] ∷
      [];
  header = 48;
  trailer = 57;
  group = Some (record { owner = 49; follower = 50; owner_type = 8; owner_identifier = 11; follower_identifier = 1; largest = 50 });
  summed = Some (record { kind = 49; field = 19 });
  counted = codes "1234";
}
