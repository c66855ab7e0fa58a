-- What is left of a field without its last blanks.
use Rattle.std.proofs.Common.{◌≡◌, ℕ, zero, suc, ◌+◌, ◌-◌, ◌<◌, ◌≤◌, false, ◌&&◌, eqb, ◌≢◌, List, [], ◌∷◌, ◌++◌, length, get_or, take, replicate, refl, ap, ◌∙◌, subst, ⊎_elim, arith}
use Rattle.std.proofs.lemmas.List.{take_more, length-take-le}
use Rattle.std.proofs.lemmas.Bool.{and_parts, cases_Bool, eqb-true, ne_eqb}
use Rattle.std.proofs.lemmas.Grind.{common_steps}
use Rattle.fields.specs.Text.{text_len, trimmed, padded}

pub text_len-blanks : (xs : List ℕ) (k : ℕ) → text_len (xs ++ replicate k 32) ≡ text_len xs
text_len-blanks [] zero = refl
text_len-blanks [] (suc k) = rw (text_len-blanks [] k)
text_len-blanks (x ∷ xs) k = rw (text_len-blanks xs k)

text_len-end : (xs : List ℕ) (b : ℕ) → eqb b 32 ≡ false → text_len (xs ++ b ∷ []) ≡ length xs + 1
text_len-end [] b f = rw f
text_len-end (x ∷ xs) b f = grind (arith, common_steps, text_len-end xs b f)

pub text_len-le : (xs : List ℕ) → text_len xs ≤ length xs
text_len-le [] = omega arith
text_len-le (x ∷ xs) = grind (arith, common_steps, text_len-le xs)

-- the text, and then blanks, is the field
blanks_after : (bs : List ℕ) → trimmed bs ++ replicate (length bs - text_len bs) 32 ≡ bs
blanks_after [] = refl
blanks_after (b ∷ bs) =
    let h = blanks_after bs in
    ⊎_elim
    (λ t. let p = and_parts (eqb (text_len bs) 0) (eqb b 32) t in
    let none = eqb-true (text_len bs) 0 p.0 in
    let blank = eqb-true b 32 p.1 in
    let h' : replicate (length bs - 0) 32 ≡ bs = rw none at h in
    let n : length bs - 0 ≡ length bs = omega arith in
    let m : suc (length bs) - 0 ≡ suc (length bs) = omega arith in
    rw (t, m) (cc))
    (λ f. let e : suc (text_len bs) ≡ text_len (b ∷ bs) = rw f (omega arith) in
    let m : suc (length bs) - suc (text_len bs) ≡ length bs - text_len bs = omega arith in
    subst (λ k. take k (b ∷ bs) ++ replicate (suc (length bs) - k) 32 ≡ b ∷ bs) e (ap (λ l. b ∷ l) (ap (λ k. trimmed bs ++ replicate k 32) m ∙ h)))
    (cases_Bool (eqb (text_len bs) 0 && eqb b 32))

pub padded-trimmed : (bs : List ℕ) → padded (length bs) (trimmed bs) ≡ bs
padded-trimmed bs = let e = length-take-le (text_len bs) bs (text_len-le bs) in rw e (blanks_after bs)

pub ends : (bs : List ℕ) (n : ℕ) → 0 < n → n ≤ length bs → (get_or bs (n - 1) 0 ≡ 32 → ⊥) → text_len (take n bs) ≡ n
ends bs n p l e =
    let m : n - 1 + 1 ≡ n = omega arith in
    let cut : take (n - 1 + 1) bs ≡ take (n - 1) bs ++ get_or bs (n - 1) 0 ∷ [] = take_more bs (n - 1) 0 (omega arith) in
    let cut' : take n bs ≡ take (n - 1) bs ++ get_or bs (n - 1) 0 ∷ [] = rw m at cut in
    let k = length-take-le (n - 1) bs (omega arith) in
    let t = text_len-end (take (n - 1) bs) (get_or bs (n - 1) 0) (ne_eqb (get_or bs (n - 1) 0) 32 e) in
    rw cut' (omega (arith, t, k))

-- blanks at the end count for nothing
text_len-front : (bs : List ℕ) (n : ℕ) → n ≤ length bs → ((k : ℕ) → n ≤ k → k < length bs → get_or bs k 0 ≡ 32) → text_len bs ≡ text_len (take n bs)
text_len-front [] zero l h = refl
text_len-front [] (suc n) l h = refl
text_len-front (b ∷ bs) zero l h =
    let rest : text_len bs ≡ 0 = text_len-front bs 0 (omega arith) (λ k m i. h (suc k) (omega arith) (omega arith)) in
    let first : b ≡ 32 = h 0 (omega arith) (omega arith) in
    rw (rest, first)
text_len-front (b ∷ bs) (suc n) l h = rw (text_len-front bs n (omega arith) (λ k m i. h (suc k) (omega arith) (omega arith)))

-- the last byte that is no blank ends the text
pub last_kept : (bs : List ℕ) (i : ℕ) → i < length bs → get_or bs i 0 ≢ 32 → ((k : ℕ) → i + 1 ≤ k → k < length bs → get_or bs k 0 ≡ 32) → text_len bs ≡ i + 1
last_kept bs i l last after =
    let m : i + 1 - 1 ≡ i = omega arith in
    text_len-front bs (i + 1) (omega arith) after ∙ ends bs (i + 1) (omega arith) (omega arith) (rw m last)

pub none_kept : (bs : List ℕ) → ((k : ℕ) → k < length bs → get_or bs k 0 ≡ 32) → text_len bs ≡ 0
none_kept bs h = text_len-front bs 0 (omega arith) (λ k _ l. h k l)
