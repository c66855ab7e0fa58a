use Rattle.std.proofs.Common.{arith}
use Rattle.std.proofs.lemmas.List.FromFn.{fill_by_all}
use Rattle.forms.specs.Forms.{unhexed, pair_at}
use Rattle.forms.proofs.hexadecimal_form.pick_up.Goals as goal

pub returns : goal.returns
unfolding unhexed
returns c = fill_by_all (pair_at c.args.from.now) c.loop-k.out 750 0 c.loop-k.invariant.long (λ k h. c.loop-k.invariant.bytes k (omega arith))
