-- What a program keeps of the entries before, and how one more entry changes it.
use Rattle.std.specs.Prelude.{◌≡◌, ℕ, ◌+◌, cond, List, [], ◌∷◌, ◌++◌, length, Some, None, Option}
use Rattle.fields.specs.Field.{any_of}
use Rattle.layouts.specs.Layout.{Layout, Group}
use Rattle.layouts.specs.Meaning.{owns, follows}
use Rattle.records.specs.Row.{Entry}
use Rattle.legality.specs.Before.{last_of, owner_place, no_entry, owner_of, count_of, followers, amount_at, sum_of}

pub record Progress : Type 0 where
  pub rows : ℕ
  pub last : Option ℕ
  pub owner_at : ℕ
  pub owner : Entry
  pub following : ℕ
  pub sum : ℕ
  pub counted : ℕ

abbrev pub last_mark : List Entry → Option ℕ
last_mark [] = None
last_mark (e ∷ es) = Some (last_of e es).mark

abbrev pub owner_in : Option Group → List Entry → Entry
owner_in None es = no_entry
owner_in (Some g) es = owner_of g es

abbrev pub followers_in : Option Group → List Entry → ℕ
followers_in None es = 0
followers_in (Some g) es = followers g es

-- the record that stands for a list of entries
abbrev pub progress_of : Layout → List Entry → Progress
progress_of l es = record {
  rows = length es;
  last = last_mark es;
  owner_at = owner_place l.group es;
  owner = owner_in l.group es;
  following = followers_in l.group es;
  sum = sum_of l es;
  counted = count_of l.counted es;
}

-- after one more entry
abbrev pub progressed : Layout → Progress → Entry → Progress
progressed l p e = record {
  rows = p.rows + 1;
  last = Some e.mark;
  owner_at = cond (owns l.group e.mark) (p.rows + 1) p.owner_at;
  owner = cond (owns l.group e.mark) e p.owner;
  following = cond (owns l.group e.mark) 0 (p.following + cond (follows l.group e.mark) 1 0);
  sum = p.sum + amount_at l l.summed e;
  counted = p.counted + cond (any_of l.counted e.mark) 1 0;
}

-- THE PROGRESS LAW: the record kept step by step stands for the list
abbrev pub ProgressLaw : Type 0
ProgressLaw = (l : Layout) (es : List Entry) (e : Entry) → progress_of l (es ++ e ∷ []) ≡ progressed l (progress_of l es) e
