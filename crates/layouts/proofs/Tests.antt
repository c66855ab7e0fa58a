-- The laws as one test that is computed over a table: a table that passes it keeps them.
use Rattle.std.proofs.Common.{◌≡◌, ℕ, ◌+◌, ◌-◌, ◌≤◌, Bool, true, false, not, ◌&&◌, ◌||◌, eqb, ltb, leb, ◌⊎◌, List, [], ◌∷◌, length, get_or, Some, None, Option, sym, refl, ap, ◌∙◌, subst, inl, inr, ⊎_elim}
use Rattle.std.specs.List.{AllByRecursion}
use Rattle.std.proofs.lemmas.Bool.{eqb-true, leb-true, ltb-true, and_parts, or_cases, not-true, eqb-false, both_ways}
use Rattle.fields.specs.Field.{Field, Sort, constant, blank, text, word, number, code, date, amount, long, worked, Working, number_of_row, number_of_owner, total, count, same}
use Rattle.layouts.specs.Layout.{Layout, Kind, Group, Place, field_at, found, kind_of}
use Rattle.layouts.specs.declared.conditions.Premise.{Premise}
use Rattle.layouts.specs.declared.conditions.Premise.TheVariants.{Always, IfCode, IfEither, IfFilled}
use Rattle.layouts.specs.declared.conditions.Claim.{Claim}
use Rattle.layouts.specs.declared.conditions.Claim.TheVariants.{IsFilled, NotFilled, IsCode, AtMost, Short, ShortBoth}
use Rattle.layouts.specs.Lawful.{Covers, Begins, Ends, Between, Apart, WorkedWide, Wide, Printable, NoOuterBlank, Contents, CodeSort, NotWorked, Names, NamesPremise, NamesClaim, LawfulKind, LawfulGroup, MarksApart, Lawful}

abbrev pub all? : {X : Type 0} → (X → Bool) → List X → Bool
all? p [] = true
all? p (x ∷ xs) = p x && all? p xs

abbrev pub covers? : ℕ → List Field → Bool
covers? p [] = eqb p 751
covers? p (f ∷ fs) = eqb f.start p && covers? (p + f.width) fs

abbrev pub is_mark : ℕ → Sort → Bool
is_mark m (constant c) = same c (m ∷ [])
is_mark m blank = false
is_mark m text = false
is_mark m (word us) = false
is_mark m number = false
is_mark m (code cs) = false
is_mark m date = false
is_mark m amount = false
is_mark m long = false
is_mark m (worked k) = false

abbrev pub begins? : ℕ → List Field → Bool
begins? m [] = false
begins? m (f ∷ fs) = is_mark m f.sort && eqb f.width 1

abbrev pub between? : ℕ → ℕ → ℕ → Bool
between? a b n = leb a n && leb n b

abbrev pub same_working : Working → Working → Bool
same_working number_of_row number_of_row = true
same_working number_of_row number_of_owner = false
same_working number_of_row total = false
same_working number_of_row count = false
same_working number_of_owner number_of_row = false
same_working number_of_owner number_of_owner = true
same_working number_of_owner total = false
same_working number_of_owner count = false
same_working total number_of_row = false
same_working total number_of_owner = false
same_working total total = true
same_working total count = false
same_working count number_of_row = false
same_working count number_of_owner = false
same_working count total = false
same_working count count = true

-- what a sort is, as far as the laws ask
abbrev pub is_worked : (Working → Bool) → Sort → Bool
is_worked p (constant c) = false
is_worked p blank = false
is_worked p text = false
is_worked p (word us) = false
is_worked p number = false
is_worked p (code cs) = false
is_worked p date = false
is_worked p amount = false
is_worked p long = false
is_worked p (worked k) = p k

abbrev pub is_text? : Sort → Bool
is_text? (constant c) = false
is_text? blank = false
is_text? text = true
is_text? (word us) = false
is_text? number = false
is_text? (code cs) = false
is_text? date = false
is_text? amount = false
is_text? long = false
is_text? (worked k) = false

abbrev pub is_amount? : Sort → Bool
is_amount? (constant c) = false
is_amount? blank = false
is_amount? text = false
is_amount? (word us) = false
is_amount? number = false
is_amount? (code cs) = false
is_amount? date = false
is_amount? amount = true
is_amount? long = false
is_amount? (worked k) = false

abbrev pub is_code? : Sort → Bool
is_code? (constant c) = false
is_code? blank = false
is_code? text = false
is_code? (word us) = false
is_code? number = false
is_code? (code cs) = true
is_code? date = false
is_code? amount = false
is_code? long = false
is_code? (worked k) = false

abbrev pub ends? : List Field → Bool
ends? fs = let f = field_at fs (length fs - 1) in is_worked (same_working number_of_row) f.sort && (eqb f.start 745 && eqb f.width 6)

abbrev pub worked_wide? : Working → ℕ → Bool
worked_wide? number_of_row w = eqb w 6
worked_wide? number_of_owner w = eqb w 6
worked_wide? total w = eqb w 17
worked_wide? count w = between? 6 18 w

abbrev pub wide? : Sort → ℕ → Bool
wide? (constant c) w = true
wide? blank w = true
wide? text w = true
wide? (word us) w = true
wide? number w = between? 1 18 w
wide? (code cs) w = between? 1 18 w
wide? date w = eqb w 8
wide? amount w = eqb w 17
wide? long w = eqb w 20
wide? (worked k) w = worked_wide? k w

abbrev pub printable? : List ℕ → Bool
printable? bs = all? (between? 32 126) bs

abbrev pub no_outer_blank? : List ℕ → Bool
no_outer_blank? bs = not (eqb (get_or bs 0 0) 32) && not (eqb (get_or bs (length bs - 1) 0) 32)

abbrev pub content? : Sort → ℕ → Bool
content? (constant c) w = printable? c && leb (length c) w
content? blank w = true
content? text w = true
content? (word us) w = all? (λ u. printable? u && (leb (length u) w && no_outer_blank? u)) us
content? number w = true
content? (code cs) w = true
content? date w = true
content? amount w = true
content? long w = true
content? (worked k) w = true

abbrev pub names? : List Field → ℕ → (Sort → Bool) → Bool
names? fs i p = ltb i (length fs) && p (field_at fs i).sort

abbrev pub not_worked? : Sort → Bool
not_worked? s = not (is_worked (λ k. true) s)

abbrev pub premise? : List Field → Premise → Bool
premise? fs Always = true
premise? fs (IfCode i a) = names? fs i is_code?
premise? fs (IfEither i a b) = names? fs i is_code?
premise? fs (IfFilled i) = names? fs i not_worked?

abbrev pub claim? : List Field → Claim → Bool
claim? fs (IsFilled i) = names? fs i not_worked?
claim? fs (NotFilled i) = names? fs i not_worked?
claim? fs (IsCode i a) = names? fs i is_code?
claim? fs (AtMost i j) = names? fs i is_amount? && names? fs j is_amount?
claim? fs (Short i n) = names? fs i is_text?
claim? fs (ShortBoth i j n) = names? fs i is_text? && names? fs j is_text?

abbrev pub is_follower? : Option Group → ℕ → Bool
is_follower? None m = false
is_follower? (Some g) m = eqb m g.follower

abbrev pub kind? : Layout → Kind → Bool
kind? l k =
    covers? 1 k.fields && (begins? k.mark k.fields && (ends? k.fields && (all? (λ f. wide? f.sort f.width) k.fields && (all? (λ f. content? f.sort f.width) k.fields &&
    (all? (λ c. premise? k.fields c.premise && claim? k.fields c.claim) k.conditions &&
    (all? (λ f. not (is_worked (same_working total) f.sort) || eqb k.mark l.trailer) k.fields &&
    (all? (λ f. not (is_worked (same_working count) f.sort) || eqb k.mark l.trailer) k.fields &&
    (all? (λ f. not (is_worked (same_working number_of_owner) f.sort) || is_follower? l.group k.mark) k.fields &&
    all? (λ m. not (eqb m l.trailer)) k.after))))))))

abbrev pub has? : Option Kind → Bool
has? None = false
has? (Some k) = true

abbrev pub group? : Layout → Option Group → Bool
group? l None = true
group? l (Some g) =
    let owner = kind_of l g.owner in
    let follower = kind_of l g.follower in
    has? (found g.owner l.kinds) && (has? (found g.follower l.kinds) && (not (eqb g.follower l.header) && (not (eqb g.follower l.trailer) &&
    (all? (λ m. eqb m g.owner || eqb m g.follower) follower.after && (names? owner.fields g.owner_identifier is_text? && (names? follower.fields g.follower_identifier is_text? &&
    (eqb (field_at owner.fields g.owner_identifier).width (field_at follower.fields g.follower_identifier).width && names? owner.fields g.owner_type is_code?)))))))

abbrev pub summed? : Layout → Option Place → Bool
summed? l None = true
summed? l (Some p) = has? (found p.kind l.kinds) && names? (kind_of l p.kind).fields p.field is_amount?

abbrev pub marks? : List Kind → Bool
marks? [] = true
marks? (k ∷ ks) = all? (λ o. not (eqb k.mark o.mark)) ks && marks? ks

abbrev pub none? : List ℕ → Bool
none? [] = true
none? (x ∷ xs) = false

abbrev pub lawful? : Layout → Bool
lawful? l =
    all? (kind? l) l.kinds && (marks? l.kinds && (group? l l.group && (summed? l l.summed &&
    (has? (found l.header l.kinds) && (none? (kind_of l l.header).after && (has? (found l.trailer l.kinds) && not (eqb l.header l.trailer)))))))

no : {X : Type 0} → false ≡ true → X
no e = absurd (both_ways false refl e)

all! : {X : Type 0} (P : X → Type 0) (p : X → Bool) → ((x : X) → p x ≡ true → P x) → (xs : List X) → all? p xs ≡ true → AllByRecursion P xs
all! P p h [] e = tt
all! P p h (x ∷ xs) e = let q = and_parts (p x) (all? p xs) e in (h x q.0, all! P p h xs q.1)

apart! : (a b : ℕ) → not (eqb a b) ≡ true → Apart a b
apart! a b e = eqb-false a b (not-true (eqb a b) e)

between! : (a b n : ℕ) → between? a b n ≡ true → Between a b n
between! a b n e = let q = and_parts (leb a n) (leb n b) e in (leb-true a n q.0, leb-true n b q.1)

covers! : (p : ℕ) (fs : List Field) → covers? p fs ≡ true → Covers p fs
covers! p [] e = eqb-true p 751 e
covers! p (f ∷ fs) e = let q = and_parts (eqb f.start p) (covers? (p + f.width) fs) e in (eqb-true f.start p q.0, covers! (p + f.width) fs q.1)

same! : (xs ys : List ℕ) → same xs ys ≡ true → xs ≡ ys
same! [] [] e = refl
same! [] (y ∷ ys) e = no e
same! (x ∷ xs) [] e = no e
same! (x ∷ xs) (y ∷ ys) e =
    let q = and_parts (eqb x y) (same xs ys) e in
    ap (λ z. z ∷ xs) (eqb-true x y q.0) ∙ ap (λ zs. y ∷ zs) (same! xs ys q.1)

mark! : (m : ℕ) (s : Sort) → is_mark m s ≡ true → s ≡ constant (m ∷ [])
mark! m (constant c) e = ap constant (same! c (m ∷ []) e)
mark! m blank e = no e
mark! m text e = no e
mark! m (word us) e = no e
mark! m number e = no e
mark! m (code cs) e = no e
mark! m date e = no e
mark! m amount e = no e
mark! m long e = no e
mark! m (worked k) e = no e

begins! : (m : ℕ) (fs : List Field) → begins? m fs ≡ true → Begins m fs
begins! m [] e = no e
begins! m (f ∷ fs) e = let q = and_parts (is_mark m f.sort) (eqb f.width 1) e in (mark! m f.sort q.0, eqb-true f.width 1 q.1)

row! : (k : Working) → same_working number_of_row k ≡ true → worked k ≡ worked number_of_row
row! number_of_row e = refl
row! number_of_owner e = no e
row! total e = no e
row! count e = no e

row-number! : (s : Sort) → is_worked (same_working number_of_row) s ≡ true → s ≡ worked number_of_row
row-number! (constant c) e = no e
row-number! blank e = no e
row-number! text e = no e
row-number! (word us) e = no e
row-number! number e = no e
row-number! (code cs) e = no e
row-number! date e = no e
row-number! amount e = no e
row-number! long e = no e
row-number! (worked k) e = row! k e

ends! : (fs : List Field) → ends? fs ≡ true → Ends fs
ends! fs e =
    let f = field_at fs (length fs - 1) in
    let q = and_parts (is_worked (same_working number_of_row) f.sort) (eqb f.start 745 && eqb f.width 6) e in
    let r = and_parts (eqb f.start 745) (eqb f.width 6) q.1 in
    (row-number! f.sort q.0, eqb-true f.start 745 r.0, eqb-true f.width 6 r.1)

worked_wide! : (k : Working) (w : ℕ) → worked_wide? k w ≡ true → WorkedWide k w
worked_wide! number_of_row w e = eqb-true w 6 e
worked_wide! number_of_owner w e = eqb-true w 6 e
worked_wide! total w e = eqb-true w 17 e
worked_wide! count w e = between! 6 18 w e

wide! : (s : Sort) (w : ℕ) → wide? s w ≡ true → Wide s w
wide! (constant c) w e = tt
wide! blank w e = tt
wide! text w e = tt
wide! (word us) w e = tt
wide! number w e = between! 1 18 w e
wide! (code cs) w e = between! 1 18 w e
wide! date w e = eqb-true w 8 e
wide! amount w e = eqb-true w 17 e
wide! long w e = eqb-true w 20 e
wide! (worked k) w e = worked_wide! k w e

printable! : (bs : List ℕ) → printable? bs ≡ true → Printable bs
printable! bs e = all! (Between 32 126) (between? 32 126) (between! 32 126) bs e

word! : (w : ℕ) (u : List ℕ) → (printable? u && (leb (length u) w && no_outer_blank? u)) ≡ true → Printable u × (length u ≤ w) × NoOuterBlank u
word! w u e =
    let p = and_parts (printable? u) (leb (length u) w && no_outer_blank? u) e in
    let q = and_parts (leb (length u) w) (no_outer_blank? u) p.1 in
    let r = and_parts (not (eqb (get_or u 0 0) 32)) (not (eqb (get_or u (length u - 1) 0) 32)) q.1 in
    (printable! u p.0, leb-true (length u) w q.0, (apart! (get_or u 0 0) 32 r.0, apart! (get_or u (length u - 1) 0) 32 r.1))

content! : (f : Field) → content? f.sort f.width ≡ true → Contents f
content! f e = record {
  constants = λ c is.
      let t : (printable? c && leb (length c) f.width) ≡ true = subst (λ s. content? s f.width ≡ true) is e in
      let q = and_parts (printable? c) (leb (length c) f.width) t in
      (printable! c q.0, leb-true (length c) f.width q.1);
  words = λ us is.
      all! _ (λ u. printable? u && (leb (length u) f.width && no_outer_blank? u)) (word! f.width) us (subst (λ s. content? s f.width ≡ true) is e);
}

text! : (s : Sort) → is_text? s ≡ true → s ≡ text
text! (constant c) e = no e
text! blank e = no e
text! text e = refl
text! (word us) e = no e
text! number e = no e
text! (code cs) e = no e
text! date e = no e
text! amount e = no e
text! long e = no e
text! (worked k) e = no e

amount! : (s : Sort) → is_amount? s ≡ true → s ≡ amount
amount! (constant c) e = no e
amount! blank e = no e
amount! text e = no e
amount! (word us) e = no e
amount! number e = no e
amount! (code cs) e = no e
amount! date e = no e
amount! amount e = refl
amount! long e = no e
amount! (worked k) e = no e

code! : (s : Sort) → is_code? s ≡ true → CodeSort s
code! (constant c) e = no e
code! blank e = no e
code! text e = no e
code! (word us) e = no e
code! number e = no e
code! (code cs) e = (cs, refl)
code! date e = no e
code! amount e = no e
code! long e = no e
code! (worked k) e = no e

not-worked! : (s : Sort) → not_worked? s ≡ true → NotWorked s
not-worked! s e k is = both_ways false refl (subst (λ s. not_worked? s ≡ true) is e)

names! : (P : Sort → Type 0) (p : Sort → Bool) → ((s : Sort) → p s ≡ true → P s) → (fs : List Field) (i : ℕ) → names? fs i p ≡ true → Names fs i P
names! P p h fs i e = let q = and_parts (ltb i (length fs)) (p (field_at fs i).sort) e in (ltb-true i (length fs) q.0, h (field_at fs i).sort q.1)

premise! : (fs : List Field) (p : Premise) → premise? fs p ≡ true → NamesPremise fs p
premise! fs Always e = tt
premise! fs (IfCode i a) e = names! CodeSort is_code? code! fs i e
premise! fs (IfEither i a b) e = names! CodeSort is_code? code! fs i e
premise! fs (IfFilled i) e = names! NotWorked not_worked? not-worked! fs i e

claim! : (fs : List Field) (c : Claim) → claim? fs c ≡ true → NamesClaim fs c
claim! fs (IsFilled i) e = names! NotWorked not_worked? not-worked! fs i e
claim! fs (NotFilled i) e = names! NotWorked not_worked? not-worked! fs i e
claim! fs (IsCode i a) e = names! CodeSort is_code? code! fs i e
claim! fs (AtMost i j) e = let q = and_parts (names? fs i is_amount?) (names? fs j is_amount?) e in (names! (λ s. s ≡ amount) is_amount? amount! fs i q.0, names! (λ s. s ≡ amount) is_amount? amount! fs j q.1)
claim! fs (Short i n) e = names! (λ s. s ≡ text) is_text? text! fs i e
claim! fs (ShortBoth i j n) e = let q = and_parts (names? fs i is_text?) (names? fs j is_text?) e in (names! (λ s. s ≡ text) is_text? text! fs i q.0, names! (λ s. s ≡ text) is_text? text! fs j q.1)

-- a field that is not of the sort, or is in its place
only : (p : Sort → Bool) (s t : Sort) (b : Bool) → p t ≡ true → (not (p s) || b) ≡ true → s ≡ t → b ≡ true
only p s t b y e is =
    ⊎_elim
    (λ n. no (sym (not-true (p s) n) ∙ ap p is ∙ y))
    (λ h. h)
    (or_cases (not (p s)) b e)

follower! : (g : Option Group) (m : ℕ) → is_follower? g m ≡ true → (h : Group) × (g ≡ Some h) × (m ≡ h.follower)
follower! None m e = no e
follower! (Some g) m e = (g, refl, eqb-true m g.follower e)

has! : (o : Option Kind) → has? o ≡ true → (k : Kind) × (o ≡ Some k)
has! None e = no e
has! (Some k) e = (k, refl)

kind! : (l : Layout) (k : Kind) → kind? l k ≡ true → LawfulKind l k
kind! l k e =
    let a = and_parts (covers? 1 k.fields) _ e in
    let b = and_parts (begins? k.mark k.fields) _ a.1 in
    let c = and_parts (ends? k.fields) _ b.1 in
    let d = and_parts (all? (λ f. wide? f.sort f.width) k.fields) _ c.1 in
    let f = and_parts (all? (λ f. content? f.sort f.width) k.fields) _ d.1 in
    let g = and_parts (all? (λ c. premise? k.fields c.premise && claim? k.fields c.claim) k.conditions) _ f.1 in
    let h = and_parts (all? (λ f. not (is_worked (same_working total) f.sort) || eqb k.mark l.trailer) k.fields) _ g.1 in
    let i = and_parts (all? (λ f. not (is_worked (same_working count) f.sort) || eqb k.mark l.trailer) k.fields) _ h.1 in
    let j = and_parts (all? (λ f. not (is_worked (same_working number_of_owner) f.sort) || is_follower? l.group k.mark) k.fields) _ i.1 in
    record {
      covers = covers! 1 k.fields a.0;
      begins = begins! k.mark k.fields b.0;
      ends = ends! k.fields c.0;
      widths = all! (λ f. Wide f.sort f.width) (λ f. wide? f.sort f.width) (λ f. wide! f.sort f.width) k.fields d.0;
      contents = all! Contents (λ f. content? f.sort f.width) content! k.fields f.0;
      conditions = all! (λ c. NamesPremise k.fields c.premise × NamesClaim k.fields c.claim) (λ c. premise? k.fields c.premise && claim? k.fields c.claim)
          (λ c t. let q = and_parts (premise? k.fields c.premise) (claim? k.fields c.claim) t in (premise! k.fields c.premise q.0, claim! k.fields c.claim q.1)) k.conditions g.0;
      totals = all! (λ f. f.sort ≡ worked total → k.mark ≡ l.trailer) (λ f. not (is_worked (same_working total) f.sort) || eqb k.mark l.trailer)
          (λ f t is. eqb-true k.mark l.trailer (only (is_worked (same_working total)) f.sort (worked total) (eqb k.mark l.trailer) refl t is)) k.fields h.0;
      counts = all! (λ f. f.sort ≡ worked count → k.mark ≡ l.trailer) (λ f. not (is_worked (same_working count) f.sort) || eqb k.mark l.trailer)
          (λ f t is. eqb-true k.mark l.trailer (only (is_worked (same_working count)) f.sort (worked count) (eqb k.mark l.trailer) refl t is)) k.fields i.0;
      owners = all! (λ f. f.sort ≡ worked number_of_owner → (g : Group) × (l.group ≡ Some g) × (k.mark ≡ g.follower)) (λ f. not (is_worked (same_working number_of_owner) f.sort) || is_follower? l.group k.mark)
          (λ f t is. follower! l.group k.mark (only (is_worked (same_working number_of_owner)) f.sort (worked number_of_owner) (is_follower? l.group k.mark) refl t is)) k.fields j.0;
      after = all! (λ m. Apart m l.trailer) (λ m. not (eqb m l.trailer)) (λ m. apart! m l.trailer) k.after j.1;
    }

group! : (l : Layout) (g : Group) → group? l (Some g) ≡ true → LawfulGroup l g
group! l g e =
    let owner = kind_of l g.owner in
    let follower = kind_of l g.follower in
    let a = and_parts (has? (found g.owner l.kinds)) _ e in
    let b = and_parts (has? (found g.follower l.kinds)) _ a.1 in
    let c = and_parts (not (eqb g.follower l.header)) _ b.1 in
    let d = and_parts (not (eqb g.follower l.trailer)) _ c.1 in
    let f = and_parts (all? (λ m. eqb m g.owner || eqb m g.follower) follower.after) _ d.1 in
    let h = and_parts (names? owner.fields g.owner_identifier is_text?) _ f.1 in
    let i = and_parts (names? follower.fields g.follower_identifier is_text?) _ h.1 in
    let j = and_parts (eqb (field_at owner.fields g.owner_identifier).width (field_at follower.fields g.follower_identifier).width) (names? owner.fields g.owner_type is_code?) i.1 in
    record {
      kinds = (has! _ a.0, has! _ b.0);
      inside = (apart! g.follower l.header c.0, apart! g.follower l.trailer d.0);
      stands = all! (λ m. (m ≡ g.owner) ⊎ (m ≡ g.follower)) (λ m. eqb m g.owner || eqb m g.follower)
          (λ m t. ⊎_elim (λ x. inl (eqb-true m g.owner x)) (λ y. inr (eqb-true m g.follower y)) (or_cases (eqb m g.owner) (eqb m g.follower) t)) follower.after f.0;
      owner_text = names! (λ s. s ≡ text) is_text? text! owner.fields g.owner_identifier h.0;
      follower_text = names! (λ s. s ≡ text) is_text? text! follower.fields g.follower_identifier i.0;
      one_width = eqb-true _ _ j.0;
      charge_type = names! CodeSort is_code? code! owner.fields g.owner_type j.1;
    }

marks! : (ks : List Kind) → marks? ks ≡ true → MarksApart ks
marks! [] e = tt
marks! (k ∷ ks) e =
    let q = and_parts (all? (λ o. not (eqb k.mark o.mark)) ks) (marks? ks) e in
    (all! (λ o. Apart k.mark o.mark) (λ o. not (eqb k.mark o.mark)) (λ o. apart! k.mark o.mark) ks q.0, marks! ks q.1)

none! : (xs : List ℕ) → none? xs ≡ true → xs ≡ []
none! [] e = refl
none! (x ∷ xs) e = no e

pub lawful! : (l : Layout) → lawful? l ≡ true → Lawful l
lawful! l e =
    let a = and_parts (all? (kind? l) l.kinds) _ e in
    let b = and_parts (marks? l.kinds) _ a.1 in
    let c = and_parts (group? l l.group) _ b.1 in
    let d = and_parts (summed? l l.summed) _ c.1 in
    let f = and_parts (has? (found l.header l.kinds)) _ d.1 in
    let g = and_parts (none? (kind_of l l.header).after) _ f.1 in
    let h = and_parts (has? (found l.trailer l.kinds)) (not (eqb l.header l.trailer)) g.1 in
    record {
      kinds = all! (LawfulKind l) (kind? l) (kind! l) l.kinds a.0;
      marks = marks! l.kinds b.0;
      group = λ g is. group! l g (subst (λ o. group? l o ≡ true) is c.0);
      summed = λ p is.
          let t : (has? (found p.kind l.kinds) && names? (kind_of l p.kind).fields p.field is_amount?) ≡ true = subst (λ o. summed? l o ≡ true) is d.0 in
          let q = and_parts (has? (found p.kind l.kinds)) (names? (kind_of l p.kind).fields p.field is_amount?) t in
          (has! _ q.0, names! (λ s. s ≡ amount) is_amount? amount! (kind_of l p.kind).fields p.field q.1);
      header = (has! _ f.0, none! (kind_of l l.header).after g.0);
      trailer = (has! _ h.0, apart! l.header l.trailer h.1);
    }
