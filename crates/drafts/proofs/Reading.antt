-- What the reader answers on rows that a draft has written.
use Rattle.std.proofs.Common.{◌≡◌, ℕ, ◌<◌, List, [], length, get_or, Ok, ap, ◌∙◌}
use Rattle.layouts.specs.Layout.{Layout}
use Rattle.layouts.specs.Lawful.{Lawful}
use Rattle.records.specs.Row.{take_value}
use Rattle.legality.specs.File.{checked}
use Rattle.files.proofs.Telling.{backed}
use Rattle.drafts.proofs.Exchanging.{exchanged}
use Rattle.drafts.specs.Runs.{Exchanged}
use Rattle.drafts.specs.Reading.{ReadBack}

module _ {B C S : Type 0} (l : Layout) (law : Lawful l) (rows : C → List (List ℕ)) (places : C → ℕ) (rows_in : S → List (List ℕ)) (whole : (s : S) (k : ℕ) → k < length (rows_in s) → length (get_or (rows_in s) k []) ≡ 750) where
  drafts : Exchanged B l rows places rows places
  drafts = exchanged B l law rows places rows places

  pub read_back : ReadBack B l rows places rows_in
  read_back = record {
    accepts = λ d es life closed s same r says. says ∙ ap (checked l) same ∙ (drafts.accepts d es life closed).1;
    backed = λ s a says. backed l law (rows_in s) (whole s) (Ok a) says;
    hands = λ es legal s same i n within low high t says. says ∙ ap (λ rs. take_value l (get_or rs i []) n) same ∙ drafts.hands es legal i n within low high;
  }
