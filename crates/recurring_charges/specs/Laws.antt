-- The laws of the book, by one test that is computed over the table.
use Rattle.std.specs.Prelude.{◌≡◌, None, refl}
use Rattle.layouts.specs.Lawful.{Lawful}
use Rattle.layouts.specs.Meaning.{largest_in, place_in}
use Rattle.layouts.proofs.Tests.{lawful! }
use Rattle.recurring_charges.specs.BookS.{layout_s}

pub lawful : Lawful layout_s
lawful = lawful! layout_s refl

-- what the book fixes for itself is what it means
pub limited : 0 ≡ largest_in (layout_s).group
limited = refl

pub sums : None ≡ place_in (layout_s).summed
sums = refl
