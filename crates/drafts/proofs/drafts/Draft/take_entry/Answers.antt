use Rattle.std.proofs.Common.{[], ◌∷◌, ◌++◌, sym, ap, ◌∙◌, subst}
use Rattle.std.proofs.lemmas.Result.{err_from_is_err_and}
use Rattle.records.specs.Entries.{handed_of}
use Rattle.legality.specs.Before.{sum_of}
use Rattle.standings.specs.Standing.{Stands}
use Rattle.lives.specs.States.{call_of}
use Rattle.drafts.proofs.Taking.{not_admitted, not_fit, used_up, taken}
use Rattle.drafts.proofs.drafts.Draft.take_entry.Goals as goal

pub returns-in_err-admitted-clause-told : goal.returns-in_err-admitted-clause-told
returns-in_err-admitted-clause-told g c = let p = err_from_is_err_and c.from_residual.result c.from_residual.ensures.1 in rw (p.1, p.2) (λ v s. not_admitted g.B.Meant.meaning v (call_of c.args.call) (handed_of c.args.entry) g.C.Source.rows g.C.Carrier.places c.args.self.now s _ (c.in_err-admitted.ensures.refused v s))

pub returns-in_err-prepared-clause-told : goal.returns-in_err-prepared-clause-told
returns-in_err-prepared-clause-told g c = let p = err_from_is_err_and c.from_residual-in_err-prepared.result c.from_residual-in_err-prepared.ensures.1 in rw (p.1, p.2) (λ v s. not_fit g.B.Meant.meaning v (call_of c.args.call) (handed_of c.args.entry) g.C.Source.rows g.C.Carrier.places c.args.self.now s _ _ (c.in_ok-admitted.ensures.refused v s) (c.in_ok-admitted.ensures.number v s) c.in_ok-admitted.ensures.kind _ (c.in_err-prepared.ensures.refused v s))

pub returns-in_err-push-clause-told : goal.returns-in_err-push-clause-told
returns-in_err-push-clause-told g c = let p = err_from_is_err_and c.from_residual-in_err-push.result c.from_residual-in_err-push.ensures.1 in rw (p.1, p.2) (λ v s. used_up g.B.Meant.meaning v (call_of c.args.call) (handed_of c.args.entry) g.C.Source.rows g.C.Carrier.places c.args.self.now s _ _ (c.in_ok-admitted.ensures.refused v s) (c.in_ok-admitted.ensures.number v s) c.in_ok-admitted.ensures.kind (c.in_ok-prepared.ensures.refused v s) _ c.push.new.self c.in_err-push.ensures.pushed c.in_err-push.ensures.kept)

pub returns-clause-told : goal.returns-clause-told
returns-clause-told g c v s =
    taken g.B.Meant.meaning v (call_of c.args.call) (handed_of c.args.entry) g.C.Source.rows g.C.Carrier.places c.args.self.now s _ _ (c.in_ok-admitted.ensures.refused v s) (c.in_ok-admitted.ensures.number v s) c.in_ok-admitted.ensures.kind (c.in_ok-prepared.ensures.refused v s) _ _ (c.in_ok-prepared.ensures.fit v s) c.push.new.self c.in_ok-push.ensures.pushed c.in_ok-push.ensures.places c.in_ok-admitted.admitted.state c.in_ok-admitted.ensures.state c.advance.new.self (λ ready fit.
    let l = g.B.Meant.meaning in
    subst (λ x. Stands l c.advance.new.self (v.entries ++ x ∷ [])) fit.read (c.advance.ensures v.entries s.1 (record { number = ready.next; few = ready.few; marked = ready.marked ∙ sym (ap (λ x. x.mark) fit.read); good = fit.good }) (fit.sums ∙ ap (λ x. sum_of l (v.entries ++ x ∷ [])) (sym fit.read))))
