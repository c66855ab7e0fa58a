-- A run of calls on a draft of the program, and the law about its lives.
use Rattle.std.specs.Prelude.{◌≡◌, ℕ, suc, List, [], ◌∷◌, Ok, Err, Result}
use Rattle.refusals.specs.Refusals.{refusal_in, of_draft}
use Rattle.layouts.specs.Layout.{Layout}
use Rattle.records.specs.Entries.{handed_of}
use Rattle.drafts.specs.declared.drafts.Draft.{Draft}
use Rattle.refusals.specs.declared.draft.DraftFault.{DraftFault}
use Rattle.drafts.specs.declared.running.Request.{Request}
use Rattle.lives.specs.Drafts.{RanOf, ExchangeOf}
use Rattle.lives.specs.Life.{Asked, ask}
use Rattle.drafts.specs.Standing.{CarrierOf, Shows, seen_in}
use Rattle.lives.specs.States.{call_of}

abbrev pub Answer : Type 0
Answer = Result (Unit {0}) DraftFault

abbrev pub asked_in : Request → Asked
asked_in q = ask (call_of q.call) (handed_of q.entry)

-- THE EXCHANGE LAW about drafts of one book on two types of carriers, like or unlike
abbrev pub Exchanged : (B : Type 0) {C D : Type 0} → Layout → (C → List (List ℕ)) → (C → ℕ) → (D → List (List ℕ)) → (D → ℕ) → Type 0
Exchanged B {C} {D} l rows places rows' places' =
    ExchangeOf l {D = Draft B C} {R = Answer} (refusal_in of_draft) (Shows l rows places) (seen_in rows places) {E = Draft B D} {S = Answer} (refusal_in of_draft) (Shows l rows' places') (seen_in rows' places')

-- how many calls were accepted
abbrev pub accepted : List Answer → ℕ
accepted [] = 0
accepted (Ok u ∷ rs) = suc (accepted rs)
accepted (Err e ∷ rs) = accepted rs

-- from the draft d the calls lead to d', and n of them were accepted
abbrev pub Ran : {B C : Type 0} → Layout → (C → List (List ℕ)) → (C → ℕ) → Draft B C → List Asked → ℕ → Draft B C → Type 0
Ran {B} {C} l rows places d qs n d' = (rs : List Answer) × RanOf l {D = Draft B C} (refusal_in of_draft) (Shows l rows places) d qs rs d' × (n ≡ accepted rs)

-- the law, and a run, on such carriers
abbrev pub ExchangedOn : (B : Type 0) {C D : Type 0} → Layout → CarrierOf C → CarrierOf D → Type 0
ExchangedOn B l on on' = Exchanged B l on.rows on.places on'.rows on'.places

abbrev pub RanOn : {B C : Type 0} → Layout → CarrierOf C → Draft B C → List Asked → ℕ → Draft B C → Type 0
RanOn l on d qs n d' = Ran l on.rows on.places d qs n d'
