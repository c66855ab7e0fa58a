use Rattle.legality.proofs.Law.{file_law}
use Rattle.legality.proofs.file_law.Goals as goal

pub returns : goal.returns
returns c = file_law
