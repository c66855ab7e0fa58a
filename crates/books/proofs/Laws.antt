-- The laws of the book of each letter.
use Rattle.layouts.specs.Lawful.{Lawful}
use Rattle.books.specs.declared.letters.Letter.{Letter}
use Rattle.books.specs.declared.letters.Letter.TheVariants.{P, Q, S}
use Rattle.books.specs.Letters.{layout_of}
use Rattle.outgoing_receipts.specs.Laws as outgoing
use Rattle.returned_receipts.specs.Laws as returned
use Rattle.recurring_charges.specs.Laws as recurring

pub lawful : (l : Letter) → Lawful (layout_of l)
lawful P = outgoing.lawful
lawful Q = returned.lawful
lawful S = recurring.lawful
