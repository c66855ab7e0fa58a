use Rattle.lives.proofs.Law.{exchange_law}
use Rattle.lives.proofs.moments_law.Goals as goal

pub returns : goal.returns
returns c = exchange_law
