-- Loops that write the fields of a kind and the kinds of a book.
use Rattle.std.proofs.Common.{◌≡◌, ℕ, ◌+◌, ◌<◌, ◌≤◌, List, [], ◌∷◌, ◌++◌, map, length, get_or, drop, sym, refl, ap, ◌∙◌, subst, ⊎_elim, ◌⊎◌, append_assoc, append-nil, rules, Bor}
use lib.ListN.{length-map}
use Rattle.std.proofs.lemmas.List.{drop_more, drop_all}
use Rattle.fields.specs.Field as s
use Rattle.fields.specs.Meaning.{field_of}
use Rattle.fields.specs.declared.field.Field.{Field}
use Rattle.layouts.specs.Layout.{Layout, kind_of}
use Rattle.layouts.specs.declared.kinds.Kind.{Kind}
use Rattle.columns.specs.Lines.{field_line, heading}
use Rattle.columns.specs.Tables.{field_lines, KindText, KindsText, Wrote}

-- the lines of fields as the code holds them
abbrev pub lines_of : ℕ → ℕ → List Field → List (Bor (List ℕ)) → List ℕ
lines_of letter mark fs ns = field_lines letter mark (map field_of fs) (map (λ n. n.now) ns)

-- one field more
pub field_put : (letter mark : ℕ) (f : Field) (n : Bor (List ℕ)) (fs gs : List Field) (ns ms : List (Bor (List ℕ))) (before after whole : List ℕ) → fs ≡ f ∷ gs → ns ≡ n ∷ ms →
    after ≡ before ++ field_line letter mark (field_of f) n.now → before ++ lines_of letter mark fs ns ≡ whole → after ++ lines_of letter mark gs ms ≡ whole
field_put letter mark f n fs gs ns ms before after whole first second put inv = search (rules, append_assoc)

-- where either is used up, nothing is left to write
pub fields_put : (letter mark : ℕ) (fs : List Field) (ns : List (Bor (List ℕ))) → (fs ≡ []) ⊎ (ns ≡ []) → lines_of letter mark fs ns ≡ []
fields_put letter mark [] ns e = refl
fields_put letter mark (f ∷ fs) [] e = refl
fields_put letter mark (f ∷ fs) (n ∷ ns) e = ⊎_elim (λ none. cc) (λ none. cc) e

-- a heading and then the lines are the text of a kind
pub kind_put : (letter mark : ℕ) (fs : List Field) (ns : List (Bor (List ℕ))) (ys : List s.Field) (title before mid after : List ℕ) → map field_of fs ≡ ys → length ns ≡ length ys → mid ≡ before ++ heading letter mark title → after ≡ mid ++ lines_of letter mark fs ns → Wrote before after (KindText letter mark ys)
kind_put letter mark fs ns ys title before mid after are many head rest = record {
  bytes = heading letter mark title ++ lines_of letter mark fs ns;
  put = rest ∙ ap (λ bs. bs ++ lines_of letter mark fs ns) head ∙ append_assoc before (heading letter mark title) (lines_of letter mark fs ns);
  text = record {
    title = title;
    names = map (λ n. n.now) ns;
    each = length-map ns (λ n. n.now) ∙ many;
    lines = ap (λ zs. heading letter mark title ++ field_lines letter mark zs (map (λ n. n.now) ns)) are;
  };
}

-- the first i of the kinds are written, and what is the text of the others completes it
pub record Tabled (letter : ℕ) (l : Layout) (ks : List Kind) (i : ℕ) (before after : List ℕ) : Type 0 where
  pub bytes : List ℕ
  pub put : after ≡ before ++ bytes
  pub completes : (rest : List ℕ) → KindsText letter l (drop i ks) rest → KindsText letter l ks (bytes ++ rest)

pub kind_tabled : (letter : ℕ) (l : Layout) (ks : List Kind) (i : ℕ) (d : Kind) (before mid after : List ℕ) → i < length ks → Tabled letter l ks i before mid →
    Wrote mid after (KindText letter (get_or ks i d).mark (kind_of l (get_or ks i d).mark).fields) → Tabled letter l ks (i + 1) before after
kind_tabled letter l ks i d before mid after h t w = record {
  bytes = t.bytes ++ w.bytes;
  put = w.put ∙ ap (λ bs. bs ++ w.bytes) t.put ∙ append_assoc before t.bytes w.bytes;
  completes = λ rest k.
      let here : KindsText letter l (drop i ks) (w.bytes ++ rest) = subst (λ (ys : List Kind). KindsText letter l ys (w.bytes ++ rest)) (sym (drop_more ks i d h)) (w.bytes, rest, refl, w.text, k) in
      subst (λ (bs : List ℕ). KindsText letter l ks bs) (sym (append_assoc t.bytes w.bytes rest)) (t.completes (w.bytes ++ rest) here);
}

pub all_tabled : (letter : ℕ) (l : Layout) (ks : List Kind) (i : ℕ) (before after : List ℕ) → length ks ≤ i → Tabled letter l ks i before after → Wrote before after (KindsText letter l ks)
all_tabled letter l ks i before after past t = record {
  bytes = t.bytes;
  put = t.put;
  text = subst (λ (bs : List ℕ). KindsText letter l ks bs) (append-nil t.bytes) (t.completes [] (subst (λ (ys : List Kind). KindsText letter l ys []) (sym (drop_all i ks past)) refl));
}
