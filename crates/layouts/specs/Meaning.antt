-- What the answers of a book's questions stand for.
use Rattle.std.specs.Prelude.{ℕ, Bool, false, cond, Some, None, Option, ◌==◌}
use Rattle.layouts.specs.declared.kinds.Kind.{Kind}
use Rattle.layouts.specs.declared.kinds.Group.{Group}
use Rattle.layouts.specs.declared.kinds.Place.{Place}
use Rattle.layouts.specs.declared.roles.Role.{Role}
use Rattle.layouts.specs.declared.roles.Role.TheVariants.{Header, Trailer, Body}
use Rattle.layouts.specs.Layout as s

-- the kind with a mark, as the program has it
abbrev pub kind_with : ℕ → Kind
kind_with m = record { mark = m }

abbrev pub kind_for : s.Kind → Kind
kind_for k = kind_with k.mark

abbrev pub kind_in : Option s.Kind → Option Kind
kind_in None = None
kind_in (Some k) = Some (kind_for k)

abbrev pub kind_marked : s.Layout → ℕ → Option Kind
kind_marked l m = kind_in (s.found m l.kinds)

abbrev pub place_of : ℕ → ℕ → Place
place_of m i = record { kind = kind_with m; field = i }

abbrev pub place_in : Option s.Place → Option Place
place_in None = None
place_in (Some p) = Some (place_of p.kind p.field)

-- the largest group is told apart from the rest
abbrev pub group_in : Option s.Group → Option Group
group_in None = None
group_in (Some g) = Some (record { owner = kind_with g.owner; follower = kind_with g.follower; owner_type = g.owner_type; owner_identifier = g.owner_identifier; follower_identifier = g.follower_identifier })

-- where no kind owns followers, no row follows as one
abbrev pub largest_in : Option s.Group → ℕ
largest_in None = 0
largest_in (Some g) = g.largest

abbrev pub owns : Option s.Group → ℕ → Bool
owns None m = false
owns (Some g) m = m == g.owner

abbrev pub follows : Option s.Group → ℕ → Bool
follows None m = false
follows (Some g) m = m == g.follower

-- the header and the trailer of a lawful book are two kinds
abbrev pub role_of : s.Layout → ℕ → Role
role_of l m = cond (m == l.header) Header (cond (m == l.trailer) Trailer Body)
