use Rattle.std.proofs.Common.{◌≡◌, ℕ, ◌+◌, ◌*◌, ◌/◌, ◌%◌, ◌<◌, length, get_or}
use Rattle.forms.specs.Forms.{digit}
use Rattle.forms.proofs.hexadecimal_form.lay.Given as goal

abbrev pub invariant-loop-k : goal.invariant-loop-k
invariant-loop-k l = record {
  long : length l.out ≡ 1501;
  digits : (j : ℕ) → j < l.k → (get_or l.out (2 * j) 0 ≡ digit (get_or l.row j 0 / 16)) × (get_or l.out (2 * j + 1) 0 ≡ digit (get_or l.row j 0 % 16));
}
