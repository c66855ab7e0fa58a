-- The exchange law.
use Rattle.std.proofs.Common.{◌≡◌, ℕ, ◌+◌, ◌-◌, ◌<◌, ◌≤◌, List, [], ◌∷◌, ◌++◌, map, length, get_or, None, Ok, Option, sym, refl, ap, ◌∙◌, subst, append_assoc, arith}
use Rattle.std.specs.List.{AllByRecursion}
use Rattle.std.proofs.ByRecursion.{All-get_or}
use Rattle.std.proofs.lemmas.List.{length-map, get_or-map, length_push}
use Rattle.std.proofs.lemmas.Bool.{eq-eqb, lt-ltb, le-leb}
use Rattle.refusals.specs.declared.table.Refusal.{Refusal}
use Rattle.refusals.specs.Faults.{first_some}
use Rattle.fields.specs.Field.{num}
use Rattle.layouts.specs.Layout.{Layout}
use Rattle.layouts.specs.Lawful.{Lawful}
use Rattle.records.specs.Row.{Entry, entry_of, row_faults, take_value}
use Rattle.legality.specs.Before.{row_of, rows_after, rows_of, no_entry}
use Rattle.legality.specs.Checks.{Call, starts, adds, closes}
use Rattle.legality.specs.File.{Onward, Legal}
use Rattle.legality.proofs.Law.{Sound, legal_shows, file_law}
use Rattle.records.specs.Entries.{Handed, meant}
use Rattle.lives.specs.Draft.{opened, done, Moment, moment, judged, next, Stepped}
use Rattle.lives.specs.Life.{Life, Ran, beginning, onward, in_order, Inside}
use Rattle.lives.specs.Exchange.{Exchange, ExchangeLaw}
use Rattle.lives.proofs.Handing.{not_judged}
use Rattle.lives.proofs.Pools.{hand_all}
use Rattle.lives.proofs.Lives.{Stage, lived}

module _ (l : Layout) where
  -- a call that is not refused
  goes : (v u : Moment) (c : Call) (h : Handed) (r : Option Refusal) → judged l v c h ≡ None → Stepped l v c h r u → (r ≡ None) × (u ≡ next l None v c h)
  goes v u c h r e s = (s.answers ∙ e, s.leaves ∙ ap (λ j. next l j v c h) e)

  run_onward : (hs : List Handed) (m : ℕ) (before : List Entry) (rows : List (List ℕ)) (places : ℕ) → Onward l before (map meant hs) → AllByRecursion Inside hs → length rows + length hs ≤ places → (rs : List (Option Refusal)) (w : Moment) → Ran l (moment (opened m) before rows places) (onward hs) rs w →
      AllByRecursion (λ r. r ≡ None) rs × (w.state ≡ done) × (w.rows ≡ rows ++ rows_after l before (map meant hs))
  run_onward [] m before rows places o i room rs w ran = absurd o
  run_onward (h ∷ []) m before rows places o i room [] w ran = absurd ran
  run_onward (h ∷ []) m before rows places o i room (r ∷ (x ∷ rs)) w ran = absurd ran.2
  run_onward (h ∷ []) m before rows places o i room (r ∷ []) w ran =
      let v = moment (opened m) before rows places in
      let g = goes v ran.0 closes h r (not_judged l h v closes refl o i.0 (omega arith)) ran.1 in
      let is = sym ran.2 ∙ g.1 in
      ((g.0, tt), ap (λ x. x.state) is, ap (λ x. x.rows) is)
  run_onward (h ∷ (y ∷ ys)) m before rows places o i room [] w ran = absurd ran
  run_onward (h ∷ (y ∷ ys)) m before rows places o i room (r ∷ rs) w ran =
      let v = moment (opened m) before rows places in
      let row = row_of l before (meant h) in
      let g = goes v ran.0 adds h r (not_judged l h v adds refl o.0 i.0 (omega arith)) ran.1 in
      let rest = run_onward (y ∷ ys) h.mark (before ++ meant h ∷ []) (rows ++ row ∷ []) places o.1 i.1 (omega (arith, length_push rows row)) rs w (rw g.1 at ran.2) in
      ((g.0, rest.0), rest.1, rest.2 ∙ append_assoc rows (row ∷ []) (rows_after l (before ++ meant h ∷ []) (map meant (y ∷ ys))))

  run_all : (hs : List Handed) (places : ℕ) → Legal l (map meant hs) → AllByRecursion Inside hs → length hs ≤ places → (rs : List (Option Refusal)) (w : Moment) → Ran l (beginning places) (in_order hs) rs w →
      AllByRecursion (λ r. r ≡ None) rs × (w.state ≡ done) × (w.rows ≡ rows_of l (map meant hs))
  run_all [] places o i room rs w ran = absurd o
  run_all (h ∷ hs) places o i room [] w ran = absurd ran
  run_all (h ∷ hs) places o i room (r ∷ rs) w ran =
      let g = goes (beginning places) ran.0 starts h r (not_judged l h (beginning places) starts refl o.0 i.0 (omega arith)) ran.1 in
      let rest = run_onward hs h.mark (meant h ∷ []) (row_of l [] (meant h) ∷ []) places o.1 i.1 (omega arith) rs w (rw g.1 at ran.2) in
      ((g.0, rest.0), rest.1, rest.2)

  reads_value : (row : List ℕ) (e : Entry) (n : ℕ) → length row ≡ 750 → first_some (row_faults l row) ≡ None → entry_of l row ≡ e → 0 < n → n ≤ length e.values → take_value l row n ≡ Ok (get_or e.values (n - 1) (num 0))
  reads_value row e n len none is low high =
      let vs = (entry_of l row).values in
      let high' : n ≤ length vs = omega (arith, high, ap (λ x. length x.values) is) in
      rw (eq-eqb (length row) 750 len, none, lt-ltb 0 n low, le-leb n (length vs) high') (ap (λ x. Ok (get_or x.values (n - 1) (num 0))) is)

module _ (l : Layout) (law : Lawful l) where
  legal : (v : Moment) (es : List Entry) → Life l v es → v.state ≡ done → Legal l es
  legal v es life e = subst (λ s. Stage l s es) e (lived l life).stage

  hands : (es : List Entry) → Legal l es → (i n : ℕ) → i < length es → 0 < n → n ≤ length (get_or es i no_entry).values → take_value l (get_or (rows_of l es) i []) n ≡ Ok (get_or (get_or es i no_entry).values (n - 1) (num 0))
  hands es h i n within low high =
      let rows = rows_of l es in
      let s = legal_shows l law es h in
      let inside : i < length rows = omega (arith, within, length-map rows (entry_of l), ap length s.1) in
      let sound = All-get_or (Sound l law) rows i [] inside s.0 in
      let is : entry_of l (get_or rows i []) ≡ get_or es i no_entry = sym (get_or-map (entry_of l) rows i [] no_entry inside) ∙ ap (λ xs. get_or xs i no_entry) s.1 in
      reads_value l (get_or rows i []) (get_or es i no_entry) n sound.0 sound.1 is low high

  pub exchange : Exchange l
  exchange =
      let f = file_law l law in
      record {
        holds = λ v es life. (lived l life).rows;
        tells = λ v w es fs a b x y. (
          (λ e. f.alone es fs (legal v es a x) (legal w fs b y) (sym (lived l a).rows ∙ e ∙ (lived l b).rows)),
          (λ e. (lived l a).rows ∙ ap (rows_of l) e ∙ sym (lived l b).rows),
        );
        accepts = λ v es life e. rw (lived l life).rows (f.passes es (legal v es life e));
        backed = λ rows a w h. let p = f.backed rows a w h in (p.0, p.1, p.2, p.3, (λ fs k e. f.alone fs p.0 k p.1 (e ∙ sym p.2)));
        hands = hands;
        handed = hand_all;
        takes = λ es h hs is i places room rs v ran.
            let r = run_all l hs places (subst (Legal l) (sym is) h) i (omega (arith, room, length-map hs meant, ap length is)) rs v ran in
            (r.0, r.1, r.2 ∙ ap (rows_of l) is);
      }

pub exchange_law : ExchangeLaw
exchange_law l law = exchange l law
