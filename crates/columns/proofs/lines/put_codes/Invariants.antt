use Rattle.std.proofs.Common.{◌≡◌, ◌++◌, drop, vec_items}
use Rattle.columns.specs.Lines.{spread, spaced}
use Rattle.columns.proofs.lines.put_codes.Given as goal

-- what is left brings the codes to their end
abbrev pub invariant-loop-code : goal.invariant-loop-code
invariant-loop-code l = vec_items l.out ++ spread spaced (drop l.code-index l.codes) ≡ vec_items l.initial.out ++ spread spaced l.codes
