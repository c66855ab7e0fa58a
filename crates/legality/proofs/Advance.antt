-- What is kept of one entry more.
use Rattle.std.proofs.Common.{◌≡◌, ℕ, ◌+◌, cond, eqb, List, [], ◌∷◌, ◌++◌, length, drop, Some, None, Option, refl, ap, arith}
use Rattle.std.proofs.lemmas.List.{length_push, drop-append-le, drop_all}
use Rattle.std.proofs.lemmas.Grind.{common_steps}
use Rattle.fields.specs.Field.{any_of}
use Rattle.layouts.specs.Layout.{Layout, Group}
use Rattle.layouts.specs.Meaning.{owns, follows}
use Rattle.records.specs.Row.{Entry}
use Rattle.legality.specs.Before.{last_place, last_entry, owner_place, count_of, followers, amount_at, sum_of}
use Rattle.legality.specs.Progress.{Progress, last_mark, owner_in, followers_in, ProgressLaw}
use Rattle.legality.proofs.Reckoning.{last_within}
use Rattle.legality.proofs.Law.{last_push}

pub sum_push : (l : Layout) (es : List Entry) (e : Entry) → sum_of l (es ++ e ∷ []) ≡ sum_of l es + amount_at l l.summed e
sum_push l [] e = omega arith
sum_push l (x ∷ xs) e = let h = sum_push l xs e in omega arith

pub count_push : (ms : List ℕ) (es : List Entry) (e : Entry) → count_of ms (es ++ e ∷ []) ≡ count_of ms es + cond (any_of ms e.mark) 1 0
count_push ms [] e = omega arith
count_push ms (x ∷ xs) e = let h = count_push ms xs e in omega arith

place_push : (m : ℕ) (es : List Entry) (e : Entry) → last_place m (es ++ e ∷ []) ≡ cond (eqb e.mark m) (length es + 1) (last_place m es)
place_push m [] e = grind (arith, common_steps)
place_push m (x ∷ xs) e = grind (arith, common_steps, place_push m xs e)

entry_push : (m : ℕ) (es : List Entry) (e : Entry) → last_entry m (es ++ e ∷ []) ≡ cond (eqb e.mark m) e (last_entry m es)
entry_push m [] e = refl
entry_push m (x ∷ xs) e = grind (arith, common_steps, place_push m xs e, entry_push m xs e)

followers_push : (g : Group) (es : List Entry) (e : Entry) → followers g (es ++ e ∷ []) ≡ cond (eqb e.mark g.owner) 0 (followers g es + cond (eqb e.mark g.follower) 1 0)
followers_push g es e =
    let at = last_place g.owner es in
    grind (arith, common_steps, place_push g.owner es e, drop_all (length es + 1) (es ++ e ∷ []) (omega (arith, length_push es e)), drop-append-le at es (e ∷ []) (last_within g.owner es), count_push (g.follower ∷ []) (drop at es) e)

pub mark_push : (es : List Entry) (e : Entry) → last_mark (es ++ e ∷ []) ≡ Some e.mark
mark_push [] e = refl
mark_push (x ∷ xs) e = ap (λ y. Some y.mark) (last_push x xs e)

pub at_push : (g : Option Group) (es : List Entry) (e : Entry) → owner_place g (es ++ e ∷ []) ≡ cond (owns g e.mark) (length es + 1) (owner_place g es)
at_push None es e = refl
at_push (Some g) es e = place_push g.owner es e

pub owner_push : (g : Option Group) (es : List Entry) (e : Entry) → owner_in g (es ++ e ∷ []) ≡ cond (owns g e.mark) e (owner_in g es)
owner_push None es e = refl
owner_push (Some g) es e = entry_push g.owner es e

pub following_push : (g : Option Group) (es : List Entry) (e : Entry) → followers_in g (es ++ e ∷ []) ≡ cond (owns g e.mark) 0 (followers_in g es + cond (follows g e.mark) 1 0)
following_push None es e = refl
following_push (Some g) es e = followers_push g es e

pub record_is : {r r' : ℕ} {k k' : Option ℕ} {a a' : ℕ} {o o' : Entry} {f f' s s' c c' : ℕ} → r ≡ r' → k ≡ k' → a ≡ a' → o ≡ o' → f ≡ f' → s ≡ s' → c ≡ c' →
    ◌≡◌ {A = Progress} (record { rows = r; last = k; owner_at = a; owner = o; following = f; sum = s; counted = c }) (record { rows = r'; last = k'; owner_at = a'; owner = o'; following = f'; sum = s'; counted = c' })
record_is p q t u v w x = cc

pub progress_law : ProgressLaw
progress_law l es e =
    record_is (length_push es e) (mark_push es e) (at_push l.group es e) (owner_push l.group es e) (following_push l.group es e) (sum_push l es e) (count_push l.counted es e)
