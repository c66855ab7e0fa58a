use Rattle.std.proofs.Common.{◌*◌, ap, ◌∙◌}
use Rattle.transcribe.proofs.Room.{suffices}
use Rattle.transcribe.proofs.transcription.rewrite.Goals as goal

pub returns-in_err-rows-clause-rewritten : goal.returns-in_err-rows-clause-rewritten
returns-in_err-rows-clause-rewritten g c =
    let size = g.G.Form.size in
    suffices size _ _ g.met.G.Form.sizes.0 (c.as_mut_slice.ensures.len ∙ c.in_ok-bytes.ensures ∙ ap (λ k. k * size) c.count.ensures) c.in_err-rows.ensures.1
