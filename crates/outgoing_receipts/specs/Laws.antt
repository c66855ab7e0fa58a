-- The laws of the book, by one test that is computed over the table.
use Rattle.std.specs.Prelude.{◌≡◌, Some, refl}
use Rattle.layouts.specs.Lawful.{Lawful}
use Rattle.layouts.specs.Meaning.{largest_in, place_of, place_in}
use Rattle.layouts.proofs.Tests.{lawful! }
use Rattle.outgoing_receipts.specs.BookP.{layout_p}

pub lawful : Lawful layout_p
lawful = lawful! layout_p refl

-- what the book fixes for itself is what it means
pub limited : 50 ≡ largest_in (layout_p).group
limited = refl

pub sums : Some (place_of 49 13) ≡ place_in (layout_p).summed
sums = refl
