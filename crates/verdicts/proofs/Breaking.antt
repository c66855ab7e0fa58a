-- Where bytes first break the hexadecimal form: the place that is computed is the first bad byte, or the length.
use Rattle.std.proofs.Common.{◌≡◌, ℕ, zero, suc, ◌+◌, ◌%◌, ◌<◌, ◌≤◌, Bool, true, false, eqb, List, [], ◌∷◌, length, get_or, Some, None, Option, refl, inl, inr, ⊎_elim, add-zero, add-one, arith}
use Rattle.std.proofs.lemmas.Grind.{common_steps}
use Rattle.std.proofs.lemmas.Bool.Decides.{nat_tests}
use Rattle.std.proofs.lemmas.Bool.{cond_both, lt-ltb, le-ltb, ltb-true, ltb-false, eqb-true, eqb-false, ne_eqb, not-false, not-true, not_from_true, not_from_false}
use Rattle.forms.specs.Forms.{hex_byte}
use Rattle.rows.specs.Lines.{Formed, FirstBad}
use Rattle.fields.specs.Places.{first_bad, some_bad}
use Rattle.fields.proofs.Finding.{NoneBefore, none_more, none_at, none_of}
use Rattle.verdicts.specs.Input.{bad_byte, Named, broken_at, form1}

module _ (bad : ℕ → ℕ → Bool) where
  before : (bs : List ℕ) (i : ℕ) → i ≤ length bs → ((j : ℕ) → j < i → bad j (get_or bs j 0) ≡ false) → NoneBefore bad bs i
  before bs zero l h = refl
  before bs (suc i) l h =
      rw add-one at (none_more bad bs i (omega arith) (h i (omega arith)) (before bs i (omega arith) (λ j k. h j (omega arith))))

  -- what is before the first bad place is fine
  below : (bs : List ℕ) (k i : ℕ) → i < length bs → k + i < first_bad bad k bs → bad (k + i) (get_or bs i 0) ≡ false
  below [] k i l h = absurd (omega arith)
  below (b ∷ bs) k zero l h = rw add-zero (grind (arith, common_steps))
  below (b ∷ bs) k (suc i) l h =
      let e : k + 1 + i ≡ k + suc i = omega arith in
      let z : k + suc i < first_bad bad (k + 1) bs = grind (arith, common_steps) in
      rw e at (below bs (k + 1) i (omega arith) (rw e z))

  from_k : (bs : List ℕ) (k : ℕ) → k ≤ first_bad bad k bs
  from_k [] k = omega arith
  from_k (b ∷ bs) k = grind (arith, common_steps, from_k bs (k + 1))

  -- and the first bad place is bad
  there : (bs : List ℕ) (k i : ℕ) → i < length bs → first_bad bad k bs ≡ k + i → bad (k + i) (get_or bs i 0) ≡ true
  there [] k i l h = absurd (omega arith)
  there (b ∷ bs) k zero l h = rw add-zero (grind (arith, common_steps, from_k bs (k + 1)))
  there (b ∷ bs) k (suc i) l h =
      let e : k + 1 + i ≡ k + suc i = omega arith in
      let z : first_bad bad (k + 1) bs ≡ k + suc i = grind (arith, common_steps) in
      rw e at (there bs (k + 1) i (omega arith) (rw e z))

pub form_kept : (bs : List ℕ) → Formed hex_byte 1501 bs → form1 bs ≡ None
form_kept bs f =
    let none = none_of bad_byte bs (λ i l. not_from_true _ (f.0 i l)) in
    let even = f.1 in
    grind (arith, nat_tests)

pub form_broken : (bs : List ℕ) (at : ℕ) → FirstBad hex_byte 1501 bs at → form1 bs ≡ Some (broken_at at)
form_broken bs at f =
    ⊎_elim
    (λ h.
    let is = none_at bad_byte bs at h.0 (not_from_false _ h.1) (before bad_byte bs at (omega arith) (λ j l. not_from_true _ (f.0 j l))) in
    rw (is, lt-ltb at (length bs) h.0))
    (λ h.
    let none = none_of bad_byte bs (λ i l. not_from_true _ (f.0 i (omega (arith, h.0)))) in
    rw (none, le-ltb (length bs) (length bs) (omega arith), ne_eqb (length bs % 1501) 0 h.1, h.0))
    f.1

-- and the other way round: what is found is there
abbrev pub Found : List ℕ → Option Named → Type 0
Found bs None = Formed hex_byte 1501 bs
Found bs (Some n) = (at : ℕ) × (n ≡ broken_at at) × FirstBad hex_byte 1501 bs at

pub found : (bs : List ℕ) → Found bs (form1 bs)
found bs =
    let first = first_bad bad_byte 0 bs in
    let fine = λ (i : ℕ) (l : i < length bs) (h : i < first). let z : 0 + i ≡ i = omega arith in not-false _ (rw z at (below bad_byte bs 0 i l (rw z h))) in
    cond_both (some_bad bad_byte bs) (Some (broken_at first)) _ (Found bs)
    (λ t.
    let less = ltb-true first (length bs) t in
    let z : 0 + first ≡ first = omega arith in
    let bad : bad_byte first (get_or bs first 0) ≡ true = rw z at (there bad_byte bs 0 first less (omega arith)) in
    (first, refl, ((λ i l. fine i (omega arith) l), inl (less, not-true _ bad))))
    (λ f.
    let all = ltb-false first (length bs) f in
    cond_both (eqb (length bs % 1501) 0) None (Some (broken_at (length bs))) (Found bs)
    (λ even. ((λ i l. fine i l (omega arith)), eqb-true (length bs % 1501) 0 even))
    (λ odd. (length bs, refl, ((λ i l. fine i l (omega arith)), inr (refl, eqb-false (length bs % 1501) 0 odd)))))
