-- What holds at every moment of a life.
use Rattle.std.proofs.Common.{◌≡◌, ℕ, true, ltb, List, [], ◌∷◌, ◌++◌, length, Some, None, Option, sym, refl, ap, subst, append_assoc, append-nil}
use Rattle.refusals.specs.declared.table.Refusal.{Refusal}
use Rattle.refusals.specs.Refusals.{refusal}
use Rattle.refusals.specs.Faults.{unless}
use Rattle.layouts.specs.Layout.{Layout}
use Rattle.records.specs.Row.{Entry}
use Rattle.records.proofs.Options.{none_all, unless_true}
use Rattle.legality.specs.Before.{row_of, rows_after, rows_of}
use Rattle.legality.specs.Checks.{Call, starts, adds, closes, checks_with, entry_fault}
use Rattle.legality.specs.File.{Onward, Legal}
use Rattle.records.specs.Entries.{Handed, meant, handed31}
use Rattle.lives.specs.Draft.{State, fresh, opened, done, Moment, allows, state_after, judged, next, Stepped}
use Rattle.lives.specs.Life.{Life, begins, goes_on, taking}
use Rattle.lives.proofs.Handing.{taken_passes}

module _ (l : Layout) where
  -- the entries of an open draft: a start and adds
  abbrev Added : List Entry → List Entry → Type 0
  Added before [] = Unit {0}
  Added before (e ∷ es) = (entry_fault l before adds e ≡ None) × Added (before ++ e ∷ []) es

  abbrev Begun : List Entry → Type 0
  Begun [] = ⊥
  Begun (e ∷ es) = (entry_fault l [] starts e ≡ None) × Added (e ∷ []) es

  abbrev pub Stage : State → List Entry → Type 0
  Stage fresh es = es ≡ []
  Stage (opened m) es = Begun es
  Stage done es = Legal l es

  add_more : (before es : List Entry) (x : Entry) → Added before es → entry_fault l (before ++ es) adds x ≡ None → Added before (es ++ x ∷ [])
  add_more before [] x h p = (rw append-nil at p, tt)
  add_more before (e ∷ es) x h p = (h.0, add_more (before ++ e ∷ []) es x h.1 (rw (append_assoc before (e ∷ []) es) p))

  close_more : (before es : List Entry) (x : Entry) → Added before es → entry_fault l (before ++ es) closes x ≡ None → Onward l before (es ++ x ∷ [])
  close_more before [] x h p = rw append-nil at p
  close_more before (e ∷ []) x h p = (h.0, p)
  close_more before (e ∷ (y ∷ ys)) x h p = (h.0, close_more (before ++ e ∷ []) (y ∷ ys) x h.1 (rw (append_assoc before (e ∷ []) (y ∷ ys)) p))

  stage_more : (s : State) (c : Call) (m : ℕ) (es : List Entry) (x : Entry) → allows s c ≡ true → Stage s es → entry_fault l es c x ≡ None → Stage (state_after c m) (es ++ x ∷ [])
  stage_more fresh starts m es x a h p = subst (λ b. Begun (b ++ x ∷ [])) (sym h) (subst (λ b. entry_fault l b starts x ≡ None) h p, tt)
  stage_more fresh adds m es x a h p = absurd (cc)
  stage_more fresh closes m es x a h p = absurd (cc)
  stage_more (opened k) starts m es x a h p = absurd (cc)
  stage_more (opened k) adds m [] x a h p = absurd h
  stage_more (opened k) adds m (e ∷ es) x a h p = (h.0, add_more (e ∷ []) es x h.1 p)
  stage_more (opened k) closes m [] x a h p = absurd h
  stage_more (opened k) closes m (e ∷ es) x a h p = (h.0, close_more (e ∷ []) es x h.1 p)
  stage_more done starts m es x a h p = absurd (cc)
  stage_more done adds m es x a h p = absurd (cc)
  stage_more done closes m es x a h p = absurd (cc)

  rows_more : (before es : List Entry) (x : Entry) → rows_after l before es ++ row_of l (before ++ es) x ∷ [] ≡ rows_after l before (es ++ x ∷ [])
  rows_more before [] x = ap (λ b. row_of l b x ∷ []) (append-nil before)
  rows_more before (e ∷ es) x = ap (λ r. row_of l before e ∷ r) (rw (append_assoc before (e ∷ []) es) at (rows_more (before ++ e ∷ []) es x))

  pub record Kept (v : Moment) (es : List Entry) : Type 0 where
    pub entries : v.entries ≡ es
    pub rows : v.rows ≡ rows_of l es
    pub stage : Stage v.state es

  accepted : (v : Moment) (es : List Entry) (c : Call) (h : Handed) → Kept v es → judged l v c h ≡ None → Kept (next l None v c h) (es ++ meant h ∷ [])
  accepted v es c h k e =
      let p = none_all (unless (allows v.state c) (refusal 30 0 0) ∷ (checks_with (handed31 l h) l v.entries c (meant h) ∷ (unless (ltb (length v.rows) v.places) (refusal 2 v.places 0) ∷ []))) e in
      let passes = taken_passes l h v.entries c p.1.0 in
      record {
        entries = ap (λ b. b ++ meant h ∷ []) k.entries;
        rows = rw (k.rows, k.entries) (rows_more [] es (meant h));
        stage = stage_more v.state c h.mark es (meant h) (unless_true _ _ p.0) k.stage (rw k.entries at passes);
      }

  went_on : (v v' : Moment) (es : List Entry) (c : Call) (h : Handed) (r : Option Refusal) → Kept v es → Stepped l v c h r v' → Kept v' (taking r es (meant h))
  went_on v v' es c h None k s = rw (s.leaves, ← s.answers) (accepted v es c h k (sym s.answers))
  went_on v v' es c h (Some r) k s = rw (s.leaves, ← s.answers) k

  pub lived : {v : Moment} {es : List Entry} → Life l v es → Kept v es
  lived (begins places) = record { entries = refl; rows = refl; stage = refl }
  lived (goes_on v v' taken c h r life s) = went_on v v' taken c h r (lived life) s
