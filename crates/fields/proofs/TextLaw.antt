-- A text field reads as t exactly when t fits it and is written as it.
use Rattle.std.proofs.Common.{◌≡◌, ℕ, ◌-◌, false, ltb, List, length, Ok, sym, ap, ◌∙◌, subst, arith}
use Rattle.std.proofs.lemmas.List.{take_all, length-take-le}
use Rattle.std.proofs.lemmas.Grind.{common_steps}
use Rattle.fields.specs.declared.flaws.Flaw.TheVariants.{Byte}
use Rattle.fields.specs.Places.{first_bad}
use Rattle.fields.specs.Text.{bad_text, text_len, trimmed, padded, check_text, take_text, read_text, write_text}
use Rattle.fields.proofs.Results.{Both, then_ok}
use Rattle.fields.proofs.Finding.{none_in, ok_checked}
use Rattle.fields.proofs.Trim.{text_len-blanks, text_len-le, padded-trimmed, ends}

pub check_is : (t u : List ℕ) → check_text t ≡ Ok u → (first_bad (bad_text (length t)) 0 t ≡ length t) × (u ≡ t)
check_is t u h = ok_checked (bad_text (length t)) Byte t u h

pub take_is : (w : ℕ) (t u : List ℕ) → take_text w t ≡ Ok u → (ltb w (length t) ≡ false) × (check_text t ≡ Ok t) × (u ≡ t)
take_is w t u h = (grind (arith, common_steps), grind (arith, common_steps), grind (arith, common_steps))

-- a good text ends without a blank, so nothing of it is trimmed
whole : (t : List ℕ) → first_bad (bad_text (length t)) 0 t ≡ length t → text_len t ≡ length t
whole t e = grind (arith, common_steps, text_len-le t, none_in (bad_text (length t)) t e (length t - 1), ends t (length t), take_all)

trimmed-padded : (w : ℕ) (t : List ℕ) → text_len t ≡ length t → trimmed (padded w t) ≡ t
trimmed-padded w t e = grind (arith, common_steps, text_len-blanks)

pub text_law : (bs t : List ℕ) → Both (read_text bs ≡ Ok t) (write_text (length bs) t ≡ Ok bs)
text_law bs t = (
  (λ ok. grind (arith, common_steps, text_len-le, length-take-le, padded-trimmed)),
  (λ ok. let p = then_ok (take_text (length bs) t) _ bs ok in
      let q = take_is (length bs) t p.0 p.1 in
      let same = q.2 in
      let is = p.2 in
      let pad : padded (length bs) p.0 ≡ bs = cc in
      let e : trimmed bs ≡ t = ap trimmed (sym pad ∙ ap (padded (length bs)) same) ∙ trimmed-padded (length bs) t (whole t (check_is t t q.1).0) in
      subst (λ u. check_text u ≡ Ok t) (sym e) q.1),
)
