-- A call's checks one after the other, and what they leave.
use Rattle.std.proofs.Common.{◌≡◌, ℕ, ◌+◌, ◌<◌, ◌≤◌, ltb, List, [], ◌∷◌, ◌++◌, length, Some, None, Option, sym, refl, ap, ◌∙◌, subst, arith}
use Rattle.std.proofs.lemmas.Bool.{leb-true, lt-ltb, le-ltb}
use Rattle.refusals.specs.declared.table.Refusal.{Refusal}
use Rattle.refusals.specs.Refusals.{refusal}
use Rattle.refusals.specs.Faults.{Fault, fault, in_row, unless, first_some}
use Rattle.layouts.specs.Layout.{Layout}
use Rattle.records.specs.Row.{mark10, fields11, conditions15}
use Rattle.records.specs.Entries.{Handed, meant, handed31, value_fault}
use Rattle.records.proofs.Options.{none_all, all_none, some_none, no_fault, unless_true, true_unless}
use Rattle.legality.specs.Checks.{Call, row27, order20, group21, owner22, sum26, asks}
use Rattle.standings.specs.declared.progress.Progress.{Progress}
use Rattle.standings.specs.Standing.{Stands}
use Rattle.lives.specs.declared.states.State.{State}
use Rattle.lives.specs.Draft.{Moment, allows, state_after, judged, next}
use Rattle.lives.specs.States.{state_of}
use Rattle.drafts.specs.declared.drafts.Draft.{Draft}
use Rattle.drafts.specs.Standing.{Shows, admission, contents, Ready, Fit}

-- the same checks, nested and one after the other
flat : (n : ℕ) (a : Option Refusal) (b d : Option Fault) (u : Option Refusal) (q o g f k w s : Option Fault) (t : Option Refusal) →
    first_some (a ∷ (first_some (in_row n (first_some (b ∷ (d ∷ []))) ∷ (u ∷ (in_row n (first_some (q ∷ (o ∷ (g ∷ (f ∷ (k ∷ (w ∷ (s ∷ [])))))))) ∷ []))) ∷ (t ∷ [])))
    ≡ first_some (a ∷ (in_row n b ∷ (in_row n d ∷ (u ∷ (in_row n q ∷ (in_row n (first_some (o ∷ (g ∷ []))) ∷ (in_row n f ∷ (in_row n k ∷ (in_row n w ∷ (in_row n s ∷ (t ∷ [])))))))))))
flat n (Some x) b d u q o g f k w s t = refl
flat n None (Some x) d u q o g f k w s t = refl
flat n None None (Some x) u q o g f k w s t = refl
flat n None None None (Some x) q o g f k w s t = refl
flat n None None None None (Some x) o g f k w s t = refl
flat n None None None None None (Some x) g f k w s t = refl
flat n None None None None None None (Some x) f k w s t = refl
flat n None None None None None None None (Some x) k w s t = refl
flat n None None None None None None None None (Some x) w s t = refl
flat n None None None None None None None None None (Some x) s t = refl
flat n None None None None None None None None None None (Some x) t = refl
flat n None None None None None None None None None None None (Some x) = refl
flat n None None None None None None None None None None None None = refl

front : {F : Type 0} (xs ys : List (Option F)) (x : F) → Some x ≡ first_some xs → Some x ≡ first_some (xs ++ ys)
front [] ys x e = some_none e
front (None ∷ xs) ys x e = front xs ys x e
front (Some y ∷ xs) ys x e = e

past : {F : Type 0} (xs ys : List (Option F)) → None ≡ first_some xs → first_some ys ≡ first_some (xs ++ ys)
past [] ys e = refl
past (None ∷ xs) ys e = past xs ys e
past (Some y ∷ xs) ys e = some_none (sym e)

module _ (l : Layout) (v : Moment) (c : Call) (h : Handed) where
  abbrev full : Option Refusal
  full = unless (ltb (length v.rows) v.places) (refusal 2 v.places 0)

  one_by_one : judged l v c h ≡ first_some (admission l v c h ++ (contents l v h ++ (full ∷ [])))
  one_by_one =
      let n = length v.entries + 1 in
      let m = h.mark in
      flat n (unless (allows v.state c) (refusal 30 0 0)) (row27 n) (mark10 l m) (value_fault (handed31 l h)) (unless (asks l c m) (fault 20 1)) (order20 l v.entries m) (group21 l v.entries m) (fields11 l (meant h)) (conditions15 l (meant h)) (owner22 l v.entries (meant h)) (sum26 l v.entries (meant h)) full

  -- what a draft stands for after a call, which is refused with x or taken
  module _ {B C : Type 0} (rows : C → List (List ℕ)) (places : C → ℕ) (d : Draft B C) (s : Shows l rows places d v) where
    abbrev pub Told : Option Refusal → Draft B C → Type 0
    Told o d' = (o ≡ judged l v c h) × Shows l rows places d' (next l (judged l v c h) v c h)

    stays : (x : Refusal) → Some x ≡ judged l v c h → Told (Some x) d
    stays x e = (e, subst (λ j. Shows l rows places d (next l j v c h)) e s)

    pub not_admitted : (x : Refusal) → Some x ≡ first_some (admission l v c h) → Told (Some x) d
    not_admitted x e = stays x (front (admission l v c h) (contents l v h ++ (full ∷ [])) x e ∙ sym one_by_one)

    module _ (n m : ℕ) (a : None ≡ first_some (admission l v c h)) (is : n ≡ length v.entries + 1) (mark : m ≡ h.mark) where
      ready : Ready l v h n m
      ready =
          let p = none_all (admission l v c h) (sym a) in
          let few : length v.entries + 1 ≤ 65535 = leb-true (length v.entries + 1) 65535 (unless_true _ _ (no_fault _ _ p.1.0)) in
          record { next = is; few = subst (λ k. k ≤ 65535) (sym is) few; marked = mark; known = no_fault _ _ p.1.1.0; valued = no_value (handed31 l h) p.1.1.1.0 }
        where
          no_value : (o : Option ℕ) → value_fault o ≡ None → o ≡ None
          no_value None e = refl
          no_value (Some n) e = some_none e

      pub not_fit : (x : Refusal) → (Ready l v h n m → Some x ≡ first_some (contents l v h)) → Told (Some x) d
      not_fit x e = stays x (front (contents l v h) (full ∷ []) x (e ready) ∙ past (admission l v c h) (contents l v h ++ (full ∷ [])) a ∙ sym one_by_one)

      module _ (fits : Ready l v h n m → None ≡ first_some (contents l v h)) where
        no_place : first_some (full ∷ []) ≡ judged l v c h
        no_place = past (contents l v h) (full ∷ []) (fits ready) ∙ past (admission l v c h) (contents l v h ++ (full ∷ [])) a ∙ sym one_by_one

        pub used_up : (x : Refusal) (k : C) → (x ≡ refusal 2 (places d.carrier) 0) × (places d.carrier ≤ length (rows d.carrier)) → k ≡ d.carrier → Told (Some x) (record { book = d.book; carrier = k; state = d.state; progress = d.progress })
        used_up x k why kept =
            let past : ltb (length v.rows) v.places ≡ _ = le-ltb (length v.rows) v.places (omega (arith, why.1, ap length s.2, s.3)) in
            let none : Some (refusal 2 v.places 0) ≡ first_some (full ∷ []) = rw past in
            subst (λ k. Told (Some x) (record { book = d.book; carrier = k; state = d.state; progress = d.progress })) (sym kept) (stays x (ap Some (why.0 ∙ ap (λ k. refusal 2 k 0) s.3) ∙ none ∙ no_place))

        pub taken : (row : List ℕ) (sum : ℕ) → (Ready l v h n m → Fit l v h row sum) → (k : C) → (length (rows d.carrier) < places d.carrier) × (rows k ≡ rows d.carrier ++ row ∷ []) → places k ≡ places d.carrier → (state : State) → state_of state ≡ state_after c h.mark → (p : Progress) → (Ready l v h n m → Fit l v h row sum → Stands l p (v.entries ++ meant h ∷ [])) → Told None (record { book = d.book; carrier = k; state = state; progress = p })
        taken row sum fit k pushed kept state after p stands =
            let free : length v.rows < v.places = omega (arith, pushed.0, ap length s.2, s.3) in
            let e = sym (all_none (full ∷ []) (true_unless _ _ (lt-ltb (length v.rows) v.places free), tt)) ∙ no_place in (
              e,
              subst (λ j. Shows l rows places (record { book = d.book; carrier = k; state = state; progress = p }) (next l j v c h)) e
                  (after, stands ready (fit ready), pushed.1 ∙ ap (λ rs. rs ++ row ∷ []) s.2 ∙ ap (λ r. v.rows ++ r ∷ []) (fit ready).is, kept ∙ s.3),
            )
