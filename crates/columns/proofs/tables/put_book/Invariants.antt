use Rattle.std.proofs.Common.{vec_items}
use Rattle.books.specs.Letters.{byte_of}
use Rattle.columns.proofs.Tabled.{Tabled}
use Rattle.columns.proofs.tables.put_book.Given as goal

abbrev pub invariant-loop-kind : goal.invariant-loop-kind
invariant-loop-kind g l = Tabled (byte_of l.letter) g.B.Meant.meaning l.kind-items l.kind-index (vec_items l.initial.out) (vec_items l.out)
