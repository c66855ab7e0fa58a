use Rattle.std.proofs.Common.{Some, refl, ap, ◌∙◌}
use Rattle.std.proofs.lemmas.Result.{err_from_is_err_and}
use Rattle.drafts.proofs.Preparing.{stops_printing, stops_judging, stops_tying, stops_summing, all_pass, prints_again, fits}
use Rattle.drafts.proofs.drafts.Draft.prepare.Goals as goal

pub returns-in_err-print-clause-refused : goal.returns-in_err-print-clause-refused
returns-in_err-print-clause-refused g c = let p = err_from_is_err_and c.from_residual.result c.from_residual.ensures.1 in rw p.1 (λ v s ready. ap Some p.2.0 ∙ stops_printing _ g.B.Meant.lawful v _ _ _ ready _ c.in_err-print.ensures.refused)

pub returns-in_err-judge-clause-refused : goal.returns-in_err-judge-clause-refused
returns-in_err-judge-clause-refused g c = let p = err_from_is_err_and c.from_residual-in_err-judge.result c.from_residual-in_err-judge.ensures.1 in rw (p.1, p.2) (λ v s ready. stops_judging _ g.B.Meant.lawful v _ _ _ ready _ c.in_ok-print.ensures.refused c.in_ok-print.ensures.printed _ c.in_err-judge.ensures.refused)

pub returns-in_err-tie-clause-refused : goal.returns-in_err-tie-clause-refused
returns-in_err-tie-clause-refused g c = let p = err_from_is_err_and c.from_residual-in_err-tie.result c.from_residual-in_err-tie.ensures.1 in rw (p.1, p.2) (λ v s ready. stops_tying _ g.B.Meant.lawful v _ _ _ ready _ c.in_ok-print.ensures.refused c.in_ok-print.ensures.printed c.in_ok-judge.ensures.refused _ refl refl _ (c.in_err-tie.ensures v.entries s.1))

pub returns-in_err-sum-clause-refused : goal.returns-in_err-sum-clause-refused
returns-in_err-sum-clause-refused g c = let p = err_from_is_err_and c.from_residual-in_err-sum.result c.from_residual-in_err-sum.ensures.1 in rw (p.1, p.2) (λ v s ready. stops_summing _ g.B.Meant.lawful v _ _ _ ready _ c.in_ok-print.ensures.refused c.in_ok-print.ensures.printed c.in_ok-judge.ensures.refused _ refl refl (c.in_ok-tie.ensures v.entries s.1) _ (c.in_err-sum.ensures.refused v.entries s.1))

pub returns-in_err-print-2-clause-refused : goal.returns-in_err-print-2-clause-refused
returns-in_err-print-2-clause-refused g c = let p = err_from_is_err_and c.from_residual-in_err-print-2.result c.from_residual-in_err-print-2.ensures.1 in rw p.1 (λ v s ready. ap Some p.2.0 ∙ prints_again _ g.B.Meant.lawful v _ _ _ ready _ c.in_ok-print.ensures.refused c.in_ok-print.ensures.printed c.in_ok-judge.ensures.refused _ refl refl (c.in_ok-tie.ensures v.entries s.1) (c.in_ok-sum.ensures.refused v.entries s.1) _ (c.in_ok-sum.ensures.sum v.entries s.1) c.worked-worked.result (c.worked-worked.ensures.all v.entries _ s.1 ready.next ready.marked) _ c.in_err-print-2.ensures.refused)

pub returns-clause-refused : goal.returns-clause-refused
returns-clause-refused g c = λ v s ready. all_pass _ g.B.Meant.lawful v _ _ _ ready _ c.in_ok-print.ensures.refused c.in_ok-print.ensures.printed c.in_ok-judge.ensures.refused _ refl refl (c.in_ok-tie.ensures v.entries s.1) (c.in_ok-sum.ensures.refused v.entries s.1)

pub returns-clause-fit : goal.returns-clause-fit
returns-clause-fit g c = λ v s ready. fits _ g.B.Meant.lawful v _ _ _ ready _ c.in_ok-print.ensures.refused c.in_ok-print.ensures.printed c.in_ok-judge.ensures.refused _ refl refl (c.in_ok-tie.ensures v.entries s.1) (c.in_ok-sum.ensures.refused v.entries s.1) _ (c.in_ok-sum.ensures.sum v.entries s.1) c.worked-worked.result (c.worked-worked.ensures.all v.entries _ s.1 ready.next ready.marked) _ c.in_ok-print-2.ensures.printed
