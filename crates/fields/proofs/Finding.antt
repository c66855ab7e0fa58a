-- The first bad place of a list: the turns of the loop that looks for it, and what it tells of the bytes.
use Rattle.std.proofs.Common.{◌≡◌, ℕ, zero, suc, ◌+◌, ◌<◌, ◌≤◌, Bool, true, false, cond, List, [], ◌∷◌, length, get_or, drop, Ok, sym, ◌∙◌, add-zero, arith}
use Rattle.std.proofs.lemmas.Grind.{common_steps}
use Rattle.std.proofs.lemmas.List.{at_drop_more}
use Rattle.fields.specs.declared.flaws.Flaw.{Flaw}
use Rattle.fields.specs.Places.{first_bad, checked}

module _ (bad : ℕ → ℕ → Bool) where
  -- no place before i is bad
  abbrev pub NoneBefore : List ℕ → ℕ → Type 0
  NoneBefore bs i = first_bad bad i (drop i bs) ≡ first_bad bad 0 bs

  turn : (bs : List ℕ) (i : ℕ) → i < length bs → first_bad bad i (drop i bs) ≡ cond (bad i (get_or bs i 0)) i (first_bad bad (i + 1) (drop (i + 1) bs))
  turn bs i l = at_drop_more (first_bad bad i) bs i 0 l

  pub none_more : (bs : List ℕ) (i : ℕ) → i < length bs → bad i (get_or bs i 0) ≡ false → NoneBefore bs i → NoneBefore bs (i + 1)
  none_more bs i l f h = sym (rw f at (turn bs i l)) ∙ h

  pub none_at : (bs : List ℕ) (i : ℕ) → i < length bs → bad i (get_or bs i 0) ≡ true → NoneBefore bs i → first_bad bad 0 bs ≡ i
  none_at bs i l t h = sym h ∙ rw t at (turn bs i l)

  -- where none is bad, the test fails at each place
  pub none_first : (b : ℕ) (bs : List ℕ) (k : ℕ) → first_bad bad k (b ∷ bs) ≡ k + length (b ∷ bs) → (bad k b ≡ false) × (first_bad bad (k + 1) bs ≡ (k + 1) + length bs)
  none_first b bs k e = (grind (arith, common_steps), grind (arith, common_steps))

  from_none : (bs : List ℕ) (k : ℕ) → first_bad bad k bs ≡ k + length bs → (i : ℕ) → i < length bs → bad (k + i) (get_or bs i 0) ≡ false
  from_none [] k e i l = absurd (omega arith)
  from_none (b ∷ bs) k e zero l = rw add-zero (none_first b bs k e).0
  from_none (b ∷ bs) k e (suc i) l =
      let h = from_none bs (k + 1) (none_first b bs k e).1 i (omega arith) in
      let z : k + 1 + i ≡ k + suc i = omega arith in
      rw z at h

  pub none_in : (bs : List ℕ) → first_bad bad 0 bs ≡ length bs → (i : ℕ) → i < length bs → bad i (get_or bs i 0) ≡ false
  none_in bs e i l = let z : 0 + i ≡ i = omega arith in rw z at (from_none bs 0 (omega (arith, e)) i l)

  to_none : (bs : List ℕ) (k : ℕ) → ((i : ℕ) → i < length bs → bad (k + i) (get_or bs i 0) ≡ false) → first_bad bad k bs ≡ k + length bs
  to_none [] k h = omega arith
  to_none (b ∷ bs) k h =
      let first : bad k b ≡ false = rw add-zero at (h 0 (omega arith)) in
      let rest = to_none bs (k + 1) (λ i l. let z : k + suc i ≡ k + 1 + i = omega arith in rw z at (h (suc i) (omega arith))) in
      rw first (omega (arith, rest))

  pub none_of : (bs : List ℕ) → ((i : ℕ) → i < length bs → bad i (get_or bs i 0) ≡ false) → first_bad bad 0 bs ≡ length bs
  none_of bs h = omega (arith, to_none bs 0 (λ i l. let z : 0 + i ≡ i = omega arith in rw z (h i l)))

  pub first_le_end : (bs : List ℕ) (k : ℕ) → first_bad bad k bs ≤ k + length bs
  first_le_end [] k = omega arith
  first_le_end (b ∷ bs) k = grind (arith, common_steps, first_le_end bs (k + 1))

  -- what a check tells: it hands on what it was given, where none is bad
  pub ok_checked : (flaw : ℕ → Flaw) (bs cs : List ℕ) → checked flaw bad bs ≡ Ok cs → (first_bad bad 0 bs ≡ length bs) × (cs ≡ bs)
  ok_checked flaw bs cs h = (grind (arith, common_steps, first_le_end), grind (arith, common_steps))
