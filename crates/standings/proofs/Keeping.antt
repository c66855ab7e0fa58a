-- What the record says of every list that it stands for.
use Rattle.std.proofs.Common.{◌≡◌, ℕ, zero, suc, ◌+◌, ◌%◌, ◌^◌, ◌<◌, ◌≤◌, true, false, cond, List, [], ◌∷◌, ◌++◌, length, drop, IfOk, MatchOption, Some, None, Ok, Err, Option, Result, sym, refl, ap, ◌∙◌, subst, arith}
use Rattle.std.specs.Result.{IsErrAnd}
use Rattle.std.proofs.lemmas.List.{length_push}
use Rattle.std.proofs.lemmas.Bool.{eqb-true, eq-eqb, lt-ltb, le-ltb, cond-true, cond-false}
use Rattle.numbers.specs.declared.cents.Cents.{Cents}
use Rattle.refusals.specs.declared.file.FileFault.{FileFault}
use Rattle.refusals.specs.declared.table.Refusal.{Refusal}
use Rattle.refusals.specs.Refusals.{refusal, refusal_in, of_file}
use Rattle.refusals.specs.Faults.{Fault, in_row}
use Rattle.fields.specs.Field.{any_of}
use Rattle.layouts.specs.Layout.{Layout, Group}
use Rattle.layouts.specs.Lawful.{Lawful}
use Rattle.layouts.specs.Meaning.{group_in, owns, follows}
use Rattle.layouts.specs.declared.kinds.Kind.{Kind}
use Rattle.layouts.specs.declared.kinds.Group as program
use Rattle.records.specs.Cells.{Origin, of_book, entered, reckoned, cells}
use Rattle.records.specs.Conditions.{cell_at, number_at, text_in}
use Rattle.records.specs.Conditions as held
use Rattle.records.specs.Row.{Entry, origins_of, contents, mark_of, entry_of}
use Rattle.records.proofs.Options.{some_none}
use Rattle.standings.specs.declared.owner.Owner.{Owner}
use Rattle.standings.specs.declared.progress.Progress.{Progress}
use Rattle.legality.specs.Before.{last_place, owner_place, no_entry, owner_of, count_of, amount_at, sum_of}
use Rattle.legality.specs.Checks.{bound, tied, owner22, summed_start, sum26}
use Rattle.legality.specs.Progress.{owner_in, followers_in}
use Rattle.standings.specs.Standing.{mark_in, number_in, entry_in, Good, GoodOwner, KeptOwner, Stands, Next, bound_by}
use Rattle.legality.proofs.Reckoning.{count_within}
use Rattle.legality.proofs.Advance.{sum_push, count_push, mark_push, at_push, owner_push, following_push, record_is}
use Rattle.standings.proofs.Holding.{some_is, text_unworked, code_unworked, holds}

-- an entry with no values holds nothing
nothing : (os : List Origin) (i : ℕ) → number_at (cells os [] []) i ≡ 0
nothing [] i = refl
nothing (of_book ∷ os) zero = refl
nothing (of_book ∷ os) (suc i) = nothing os i
nothing (entered p ∷ os) zero = refl
nothing (entered p ∷ os) (suc i) = nothing os i
nothing (reckoned s k ∷ os) zero = refl
nothing (reckoned s k ∷ os) (suc i) = nothing os i

followers_within : (g : Option Group) (es : List Entry) → followers_in g es ≤ length es
followers_within None es = omega arith
followers_within (Some g) es = omega (arith, count_within (g.follower ∷ []) (drop (last_place g.owner es) es), shorter (last_place g.owner es) es)
  where
    shorter : (n : ℕ) (xs : List Entry) → length (drop n xs) ≤ length xs
    shorter zero xs = omega arith
    shorter (suc n) [] = omega arith
    shorter (suc n) (x ∷ xs) = omega (arith, shorter n xs)

module _ (l : Layout) (p : Progress) (es : List Entry) (s : Stands l p es) where
  owner_at : number_in p.owner ≡ owner_place l.group es
  owner_at = ap (λ x. x.owner_at) s.says

  owner_is : entry_in l p.owner ≡ owner_in l.group es
  owner_is = ap (λ x. x.owner) s.says

  following_is : p.following ≡ followers_in l.group es
  following_is = ap (λ x. x.following) s.says

  sum_is : p.sum.value ≡ sum_of l es
  sum_is = ap (λ x. x.sum) s.says

  counted_is : p.counted ≡ count_of l.counted es
  counted_is = ap (λ x. x.counted) s.says

  -- one more entry of the mark m
  module _ (e : Entry) (m : ℕ) (here : m ≡ e.mark) where
    pub counted_more : true ≡ any_of l.counted m → (p.counted + 1) % 18446744073709551616 ≡ count_of l.counted (es ++ e ∷ [])
    counted_more t =
        let few = s.few in
        let is = counted_is in
        let in_all = count_within l.counted es in
        let push = count_push l.counted es e in
        let one : ◌≡◌ {A = ℕ} (cond (any_of l.counted e.mark) 1 0) 1 = cond-true _ 1 0 (ap (any_of l.counted) (sym here) ∙ sym t) in
        omega arith

    pub counted_same : false ≡ any_of l.counted m → p.counted ≡ count_of l.counted (es ++ e ∷ [])
    counted_same f =
        let is = counted_is in
        let push = count_push l.counted es e in
        let none : ◌≡◌ {A = ℕ} (cond (any_of l.counted e.mark) 1 0) 0 = cond-false _ 1 0 (ap (any_of l.counted) (sym here) ∙ sym f) in
        omega arith

    pub following_none : true ≡ owns l.group m → 0 ≡ followers_in l.group (es ++ e ∷ [])
    following_none t = sym (following_push l.group es e ∙ cond-true _ 0 _ (ap (owns l.group) (sym here) ∙ sym t))

    not_owner : false ≡ owns l.group m → followers_in l.group (es ++ e ∷ []) ≡ followers_in l.group es + cond (follows l.group e.mark) 1 0
    not_owner f = following_push l.group es e ∙ cond-false _ 0 _ (ap (owns l.group) (sym here) ∙ sym f)

    pub following_more : false ≡ owns l.group m → true ≡ follows l.group m → (p.following + 1) % 18446744073709551616 ≡ followers_in l.group (es ++ e ∷ [])
    following_more f t =
        let few = s.few in
        let is = following_is in
        let in_all = followers_within l.group es in
        let push = not_owner f in
        let one : ◌≡◌ {A = ℕ} (cond (follows l.group e.mark) 1 0) 1 = cond-true _ 1 0 (ap (follows l.group) (sym here) ∙ sym t) in
        omega arith

    pub following_same : false ≡ owns l.group m → false ≡ follows l.group m → p.following ≡ followers_in l.group (es ++ e ∷ [])
    following_same f t =
        let is = following_is in
        let push = not_owner f in
        let none : ◌≡◌ {A = ℕ} (cond (follows l.group e.mark) 1 0) 0 = cond-false _ 1 0 (ap (follows l.group) (sym here) ∙ sym t) in
        omega arith

  -- the sum with one more entry
  module _ (e : Entry) (a v : ℕ) (amount : a ≡ amount_at l l.summed e) (sum : v ≡ p.sum.value + a) where
    pub sum_more : v ≡ sum_of l (es ++ e ∷ [])
    sum_more =
        let is = sum_is in
        let push = sum_push l es e in
        omega arith

    sum_fits : (n : ℕ) → v < 10 ^ 17 → None ≡ in_row n (sum26 l es e)
    sum_fits n h = rw (lt-ltb (sum_of l (es ++ e ∷ [])) (10 ^ 17) (subst (λ x. x < 10 ^ 17) sum_more h)) refl

    sum_past : (n : ℕ) → 10 ^ 17 ≤ v → Some (refusal 26 n (summed_start l l.summed)) ≡ in_row n (sum26 l es e)
    sum_past n h = rw (le-ltb (sum_of l (es ++ e ∷ [])) (10 ^ 17) (subst (λ x. 10 ^ 17 ≤ x) sum_more h)) refl

  -- both outcomes
  pub record SumTold (e : Entry) (n : ℕ) (r : Result Cents FileFault) : Type 0 where
    pub refused : refusal_in of_file r ≡ in_row n (sum26 l es e)
    pub sum : IfOk r (λ sum. sum.value ≡ sum_of l (es ++ e ∷ []))

  pub sum_told : (e : Entry) (a n : ℕ) → a ≡ amount_at l l.summed e → (o : Option Cents) (r : Result Cents FileFault) (Fault : FileFault → Type 0) → ((f : FileFault) → Fault f → of_file f ≡ refusal 26 n (summed_start l l.summed)) → MatchOption o (10 ^ 17 ≤ p.sum.value + a) (λ c. c.value ≡ p.sum.value + a) → MatchOption o (IsErrAnd r Fault) (λ c. r ≡ Ok c) → SumTold e n r
  sum_told e a n amount (Some c) r Fault is sum ok = subst (SumTold e n) (sym ok) (record { refused = sum_fits e a c.value amount sum n c.bounded; sum = sum_more e a c.value amount sum })
  sum_told e a n amount None (Ok c) Fault is past err = absurd err
  sum_told e a n amount None (Err f) Fault is past err = record { refused = ap Some (is f err) ∙ sum_past e a (p.sum.value + a) amount refl n past; sum = tt }

  -- a follower, and what is kept of its owner
  module _ (row : List ℕ) (n : ℕ) (group : program.Group) (follower : mark_of row ≡ group.follower.mark) where
    abbrev bound_to : Group → Entry → Option Fault
    bound_to g o = bound l g (number_at (contents l o) g.owner_type) (text_in (cell_at (contents l o) g.owner_identifier)) (text_in (cell_at (contents l (entry_of l row)) g.follower_identifier))

    -- where a kind owns followers, a row of these is looked at
    looked : (g : Group) (o : Entry) (x : Option Refusal) → Some group ≡ group_in (Some g) → o ≡ owner_of g es → x ≡ in_row n (bound_to g o) → x ≡ in_row n (tied l (Some g) es (entry_of l row))
    looked g o x is same h =
        h ∙ ap (λ o. in_row n (bound_to g o)) same
        ∙ ap (in_row n) (sym (cond-true _ (bound_to g (owner_of g es)) None (eq-eqb (mark_of row) g.follower (follower ∙ ap (λ y. y.follower.mark) (some_is is)))))

    -- an owner is kept
    module _ (law : Lawful l) (good : Good l row) (o : Owner) (kept : p.owner ≡ Some o) where
      good_owner : GoodOwner l o
      good_owner = subst (KeptOwner l) kept s.keeps

      bound_held : (g : Group) → l.group ≡ Some g → Some group ≡ group_in (Some g) → bound_by l g o.row row ≡ bound_to g (entry_of l o.row)
      bound_held g e is =
          let group-law = law.group g e in
          let owner : g.owner ≡ mark_of o.row = sym (eqb-true (mark_of o.row) g.owner (subst (λ gr. owns gr (mark_of o.row) ≡ true) e good_owner.owner)) in
          let here : g.follower ≡ mark_of row = sym (follower ∙ ap (λ y. y.follower.mark) (some_is is)) in
          let type = holds l law o.row good_owner.good g.owner owner g.owner_type group-law.charge_type.0 (code_unworked _ group-law.charge_type.1) in
          let identifier = holds l law o.row good_owner.good g.owner owner g.owner_identifier group-law.owner_text.0 (text_unworked _ group-law.owner_text.1) in
          let copy = holds l law row good g.follower here g.follower_identifier group-law.follower_text.0 (text_unworked _ group-law.follower_text.1) in
          bound_is g (ap held.number_in type) (ap text_in identifier) (ap text_in copy)
        where
          bound_is : (g : Group) {a b : ℕ} {c d x y : List ℕ} → a ≡ b → c ≡ d → x ≡ y → bound l g a c x ≡ bound l g b d y
          bound_is g {a} {b} {c} {d} {x} {y} p q r = ap (λ a. bound l g a c x) p ∙ ap (λ c. bound l g b c x) q ∙ ap (λ x. bound l g b d x) r

      tied_at : (gr : Option Group) → l.group ≡ gr → Some group ≡ group_in gr → (x : Option Refusal) → ((g : Group) → Some group ≡ group_in (Some g) → x ≡ in_row n (bound_by l g o.row row)) → x ≡ in_row n (tied l gr es (entry_of l row))
      tied_at None e is x h = some_none is
      tied_at (Some g) e is x h =
          let same : entry_of l o.row ≡ owner_of g es = ap (entry_in l) (sym kept) ∙ owner_is ∙ ap (λ gr. owner_in gr es) e in
          looked g (entry_of l o.row) x is same (h g is ∙ ap (in_row n) (bound_held g e is))

      pub tied_kept : Some group ≡ group_in l.group → (x : Option Refusal) → ((g : Group) → Some group ≡ group_in (Some g) → x ≡ in_row n (bound_by l g o.row row)) → x ≡ in_row n (owner22 l es (entry_of l row))
      tied_kept = tied_at l.group refl

    -- none is: its type is not 2
    untied_at : (gr : Option Group) → l.group ≡ gr → Some group ≡ group_in gr → p.owner ≡ None → Some (refusal 22 n 1) ≡ in_row n (tied l gr es (entry_of l row))
    untied_at None e is none = some_none is
    untied_at (Some g) e is none =
        let same : no_entry ≡ owner_of g es = ap (entry_in l) (sym none) ∙ owner_is ∙ ap (λ gr. owner_in gr es) e in
        let zero-type : number_at (contents l no_entry) g.owner_type ≡ 0 = nothing (origins_of l 0) g.owner_type in
        looked g no_entry (Some (refusal 22 n 1)) is same
        (ap (λ t. in_row n (bound l g t (text_in (cell_at (contents l no_entry) g.owner_identifier)) (text_in (cell_at (contents l (entry_of l row)) g.follower_identifier)))) (sym zero-type))

    pub untied : Some group ≡ group_in l.group → p.owner ≡ None → Some (refusal 22 n 1) ≡ in_row n (owner22 l es (entry_of l row))
    untied = untied_at l.group refl

  -- one more row
  module _ (n : ℕ) (kind : Kind) (row : List ℕ) (next : Next l es n kind row) where
    abbrev more : List Entry
    more = es ++ entry_of l row ∷ []

    -- what is kept of an owner is right after it
    pub record OwnerAfter (o : Option Owner) : Type 0 where
      pub at : number_in o ≡ owner_place l.group more
      pub is : entry_in l o ≡ owner_in l.group more
      pub kept : KeptOwner l o

    pub owner_new : owns l.group kind.mark ≡ true → OwnerAfter (Some (record { number = n; row = row }))
    owner_new t =
        let here : owns l.group (mark_of row) ≡ true = ap (owns l.group) (sym next.marked) ∙ t in
        record {
          at = next.number ∙ sym (at_push l.group es (entry_of l row) ∙ cond-true _ _ _ here);
          is = sym (owner_push l.group es (entry_of l row) ∙ cond-true _ _ _ here);
          kept = record { good = next.good; owner = here };
        }

    pub owner_old : owns l.group kind.mark ≡ false → OwnerAfter p.owner
    owner_old f =
        let here : owns l.group (mark_of row) ≡ false = ap (owns l.group) (sym next.marked) ∙ f in
        record {
          at = owner_at ∙ sym (at_push l.group es (entry_of l row) ∙ cond-false _ _ _ here);
          is = owner_is ∙ sym (owner_push l.group es (entry_of l row) ∙ cond-false _ _ _ here);
          kept = s.keeps;
        }

    pub advanced : (q : Progress) → q.rows ≡ n → q.last ≡ Some kind → OwnerAfter q.owner → q.following ≡ followers_in l.group more → q.sum.value ≡ sum_of l more → q.counted ≡ count_of l.counted more → Stands l q more
    advanced q r k o f t u = record {
      few = omega (arith, length_push es (entry_of l row), next.number, next.few);
      says = record_is (r ∙ next.number ∙ sym (length_push es (entry_of l row))) (ap mark_in k ∙ ap Some next.marked ∙ sym (mark_push es (entry_of l row))) o.at o.is f t u;
      keeps = o.kept;
    }
