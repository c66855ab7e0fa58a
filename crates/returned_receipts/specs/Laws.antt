-- The laws of the book, by one test that is computed over the table.
use Rattle.std.specs.Prelude.{◌≡◌, Some, refl}
use Rattle.layouts.specs.Lawful.{Lawful}
use Rattle.layouts.specs.Meaning.{largest_in, place_of, place_in}
use Rattle.layouts.proofs.Tests.{lawful! }
use Rattle.returned_receipts.specs.BookQ.{layout_q}

pub lawful : Lawful layout_q
lawful = lawful! layout_q refl

-- what the book fixes for itself is what it means
pub limited : 50 ≡ largest_in (layout_q).group
limited = refl

pub sums : Some (place_of 49 19) ≡ place_in (layout_q).summed
sums = refl
