-- The exchange law about any types of drafts, from the law about moments.
use Rattle.std.proofs.Common.{◌≡◌, ◌≤◌, List, [], ◌∷◌, map, length, None, Ok, Option, sym, refl, ◌∙◌, subst}
use Rattle.std.specs.List.{AllByRecursion}
use Rattle.refusals.specs.declared.table.Refusal.{Refusal}
use Rattle.layouts.specs.Layout.{Layout}
use Rattle.layouts.specs.Lawful.{Lawful}
use Rattle.records.specs.Row.{Entry}
use Rattle.records.specs.Entries.{Handed, meant}
use Rattle.legality.specs.Before.{rows_of}
use Rattle.legality.specs.File.{Legal, accepted, checked, Whole}
use Rattle.lives.specs.Draft.{done, Moment, judged, next}
use Rattle.lives.specs.Life.{Life, begins, goes_on, beginning, Asked, in_order, Inside, Ran}
use Rattle.lives.specs.Exchange.{Exchange}
use Rattle.lives.specs.Drafts.{LifeOf, begun, called, RanOf, LivesALife, Seen, Faithful, ExchangeOf}
use Rattle.lives.proofs.Law.{exchange_law}

module _ (l : Layout) {D R : Type 0} (refused : R → Option Refusal) (Shows : D → Moment → Type 0) where
  lives : {d : D} {es : List Entry} → LifeOf l refused Shows d es → (v : Moment) × Shows d v × Life l v es
  lives (begun d places s) = (beginning places, s, begins places)
  lives (called d d' taken c h r life s) =
      let p = lives life in
      let v = p.0 in
      let q = s v p.1 in
      (next l (judged l v c h) v c h, q.1, goes_on v _ taken c h (refused r) p.2 (record { answers = q.0; leaves = refl }))

  pub lives_a_life : LivesALife l refused Shows
  lives_a_life d es life = lives life

  -- a run of calls on a draft is a run from every moment that it shows
  runs : (qs : List Asked) (rs : List R) (d d' : D) (v : Moment) → Shows d v → RanOf l refused Shows d qs rs d' → (w : Moment) × Shows d' w × Ran l v qs (map refused rs) w
  runs [] [] d d' v s ran = (v, subst (λ x. Shows x v) ran s, refl)
  runs [] (r ∷ rs) d d' v s ran = absurd ran
  runs (q ∷ qs) [] d d' v s ran = absurd ran
  runs (q ∷ qs) (r ∷ rs) d d' v s ran =
      let told = ran.1 v s in
      let u = next l (judged l v q.call q.handed) v q.call q.handed in
      let more = runs qs rs ran.0 d' u told.1 ran.2 in
      (more.0, more.1, (u, record { answers = told.0; leaves = refl }, more.2))

  none_refused : (rs : List R) → AllByRecursion (λ r. r ≡ None) (map refused rs) → AllByRecursion (λ r. refused r ≡ None) rs
  none_refused [] h = tt
  none_refused (r ∷ rs) h = (h.0, none_refused rs h.1)

module _ (l : Layout) (law : Lawful l) {D R : Type 0} (refused : R → Option Refusal) (Shows : D → Moment → Type 0) (seen : Seen D) (faithful : Faithful Shows seen) {E S : Type 0} (refused' : S → Option Refusal) (Shows' : E → Moment → Type 0) (seen' : Seen E) (faithful' : Faithful Shows' seen') where
  exchange : Exchange l
  exchange = exchange_law l law

  holds : (d : D) (es : List Entry) → LifeOf l refused Shows d es → seen.rows d ≡ rows_of l es
  holds d es life =
      let p = lives_a_life l refused Shows d es life in
      (faithful d p.0 p.1).0 ∙ exchange.holds p.0 es p.2

  tells : (d : D) (e : E) (es fs : List Entry) → LifeOf l refused Shows d es → LifeOf l refused' Shows' e fs → seen.state d ≡ done → seen'.state e ≡ done → (seen.rows d ≡ seen'.rows e → es ≡ fs) × (es ≡ fs → seen.rows d ≡ seen'.rows e)
  tells d e es fs life other closed closed' =
      let p = lives_a_life l refused Shows d es life in
      let q = lives_a_life l refused' Shows' e fs other in
      let a = faithful d p.0 p.1 in
      let b = faithful' e q.0 q.1 in
      let t = exchange.tells p.0 q.0 es fs p.2 q.2 (sym a.2 ∙ closed) (sym b.2 ∙ closed') in
      (λ same. t.0 (sym a.0 ∙ same ∙ b.0), λ same. a.0 ∙ t.1 same ∙ sym b.0)

  accepts : (d : D) (es : List Entry) → LifeOf l refused Shows d es → seen.state d ≡ done → Whole (seen.rows d) × (checked l (seen.rows d) ≡ Ok (accepted l es))
  accepts d es life closed =
      let p = lives_a_life l refused Shows d es life in
      let a = faithful d p.0 p.1 in
      rw a.0 (exchange.accepts p.0 es p.2 (sym a.2 ∙ closed))

  takes : (es : List Entry) → Legal l es → (hs : List Handed) → map meant hs ≡ es → AllByRecursion Inside hs → (d d' : D) (rs : List R) → Shows d (beginning (seen.places d)) → length es ≤ seen.places d → RanOf l refused Shows d (in_order hs) rs d' → AllByRecursion (λ r. refused r ≡ None) rs × (seen.state d' ≡ done) × (seen.rows d' ≡ rows_of l es)
  takes es legal hs is inside d d' rs fresh room ran =
      let p = runs l refused Shows (in_order hs) rs d d' (beginning (seen.places d)) fresh ran in
      let a = faithful d' p.0 p.1 in
      let t = exchange.takes es legal hs is inside (seen.places d) room (map refused rs) p.0 p.2 in
      (none_refused l refused Shows rs t.0, a.2 ∙ t.1, a.0 ∙ t.2)

  pub exchange_of : ExchangeOf l refused Shows seen refused' Shows' seen'
  exchange_of = record { holds = holds; tells = tells; accepts = accepts; backed = exchange.backed; hands = exchange.hands; handed = exchange.handed; takes = takes }
