-- The exchange law about real drafts, on any two types of carriers.
use Rattle.std.proofs.Common.{ℕ, List}
use Rattle.refusals.specs.Refusals.{refusal_in, of_draft}
use Rattle.layouts.specs.Layout.{Layout}
use Rattle.layouts.specs.Lawful.{Lawful}
use Rattle.lives.proofs.AnyDrafts.{exchange_of}
use Rattle.drafts.specs.declared.drafts.Draft.{Draft}
use Rattle.drafts.specs.Runs.{Answer, Exchanged}
use Rattle.drafts.specs.Standing.{Shows, seen_in}

pub exchanged : (B : Type 0) {C D : Type 0} (l : Layout) → Lawful l → (rows : C → List (List ℕ)) (places : C → ℕ) (rows' : D → List (List ℕ)) (places' : D → ℕ) → Exchanged B l rows places rows' places'
exchanged B {C} {D} l law rows places rows' places' =
    exchange_of l law
    {D = Draft B C} {R = Answer} (refusal_in of_draft) (Shows l rows places) (seen_in rows places) (λ d v s. (s.2, s.3, s.0))
    {E = Draft B D} {S = Answer} (refusal_in of_draft) (Shows l rows' places') (seen_in rows' places') (λ d v s. (s.2, s.3, s.0))
