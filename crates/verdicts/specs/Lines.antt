-- The bytes of a line.
use Rattle.std.specs.Prelude.{ℕ, List}
use Rattle.verdicts.specs.declared.lines.Line.{Line}
use Rattle.verdicts.specs.declared.lines.Line.TheVariants.{InOrder, Faulty}

abbrev pub bytes_of : Line → List ℕ
bytes_of (InOrder bs) = bs
bytes_of (Faulty bs) = bs
