use Rattle.std.proofs.Common.{◌≡◌, ℕ, ◌<◌, length, get_or}
use Rattle.forms.specs.Forms.{pair_at}
use Rattle.forms.proofs.hexadecimal_form.pick_up.Given as goal

abbrev pub invariant-loop-k : goal.invariant-loop-k
invariant-loop-k l = record {
  long : length l.out ≡ 750;
  bytes : (j : ℕ) → j < l.k → get_or l.out j 0 ≡ pair_at l.from j;
}
