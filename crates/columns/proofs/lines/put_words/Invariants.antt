use Rattle.std.proofs.Common.{◌≡◌, ◌++◌, map, drop, vec_items}
use Rattle.columns.specs.Lines.{spread, quoted}
use Rattle.columns.proofs.lines.put_words.Given as goal

-- what is left brings the words to their end
abbrev pub invariant-loop-word : goal.invariant-loop-word
invariant-loop-word l = vec_items l.out ++ spread quoted (map (λ w. w.now) (drop l.word-index l.words)) ≡ vec_items l.initial.out ++ spread quoted (map (λ w. w.now) l.words)
