use Rattle.legality.proofs.Advance.{progress_law}
use Rattle.legality.proofs.progress_law.Goals as goal

pub returns : goal.returns
returns c = progress_law
